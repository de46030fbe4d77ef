use Rattle.wire_types.specs.Texts.{texts_of}
use Rattle.wire_reader.proofs.Parsing.{is_said, said_ok, said_err}
use Rattle.wire_reader.proofs.first_pass.take.Goals as goal

pub returns-clause-ok : goal.returns-clause-ok
returns-clause-ok c = said_ok c.take_said.result (texts_of c.args.words.now) c.in_ok-said.said _ c.take_said.ensures.ok (is_said _ _ c.in_ok-said.ensures.found c.in_ok-said.ensures.none)

pub returns-clause-err : goal.returns-clause-err
returns-clause-err c = said_err c.take_said.result (texts_of c.args.words.now) c.in_ok-said.said _ c.take_said.ensures.err (is_said _ _ c.in_ok-said.ensures.found c.in_ok-said.ensures.none)
