use Rattle.wire_reader.proofs.Within.{first_within}
use Rattle.wire_reader.proofs.Passed.{scripts_read, second_fault}
use Rattle.wire_reader.proofs.reader.read_sized.Goals as goal

pub scripts_of-requires-clause-within : goal.scripts_of-requires-clause-within
scripts_of-requires-clause-within c = first_within _ _ _ _ c.in_ok-draft.ensures.ok

pub returns-clause-ok : goal.returns-clause-ok
returns-clause-ok c = scripts_read c.args.size c.args.bytes.now c.in_ok-refuse_long.ensures.ok _ c.in_ok-draft.ensures.ok (λ s. s) c.scripts_of.result c.scripts_of.ensures.ok

pub returns-clause-err : goal.returns-clause-err
returns-clause-err c = second_fault c.args.size c.args.bytes.now c.in_ok-refuse_long.ensures.ok _ c.in_ok-draft.ensures.ok c.scripts_of.result c.scripts_of.ensures.err
