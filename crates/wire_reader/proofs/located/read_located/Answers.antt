use Rattle.wire_reader.proofs.Within.{first_within}
use Rattle.wire_reader.proofs.Passed.{scripts_read, second_fault, lines_read}
use Rattle.wire_types.specs.Texts.{lists_of}
use Rattle.wire_reader.proofs.located.read_located.Goals as goal

pub scripts_with_lines-requires-clause-within : goal.scripts_with_lines-requires-clause-within
scripts_with_lines-requires-clause-within c = first_within _ _ _ _ c.in_ok-draft.ensures.ok

pub returns-clause-ok : goal.returns-clause-ok
returns-clause-ok c = scripts_read c.args.size c.args.bytes.now c.in_ok-refuse_long.ensures.ok _ c.in_ok-draft.ensures.ok (λ r. r.0) c.scripts_with_lines.result c.scripts_with_lines.ensures.ok

pub returns-clause-lines : goal.returns-clause-lines
returns-clause-lines c = lines_read c.args.size c.args.bytes.now c.in_ok-refuse_long.ensures.ok _ c.in_ok-draft.ensures.ok (λ r. lists_of r.1.items) c.scripts_with_lines.result c.scripts_with_lines.ensures.lines

pub returns-clause-err : goal.returns-clause-err
returns-clause-err c = second_fault c.args.size c.args.bytes.now c.in_ok-refuse_long.ensures.ok _ c.in_ok-draft.ensures.ok c.scripts_with_lines.result c.scripts_with_lines.ensures.err
