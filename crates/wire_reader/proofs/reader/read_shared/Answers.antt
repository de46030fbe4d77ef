use Rattle.wire_reader.proofs.Within.{first_within}
use Rattle.wire_reader.proofs.Steps.{handed_on}
use Rattle.wire_reader.proofs.Passed.{first_fault, scripts_read, second_fault}
use Rattle.wire_reader.proofs.reader.read_shared.Goals as goal

pub scripts_of-requires-clause-within : goal.scripts_of-requires-clause-within
scripts_of-requires-clause-within g c = first_within _ _ _ _ c.in_ok-draft.ensures.ok

pub returns-clause-ok : goal.returns-clause-ok
returns-clause-ok g c = scripts_read c.args.size c.args.bytes.now c.in_ok-refuse_long.ensures.ok _ c.in_ok-draft.ensures.ok (λ s. s) c.scripts_of.result c.scripts_of.ensures.ok

pub returns-clause-err : goal.returns-clause-err
returns-clause-err g c = second_fault c.args.size c.args.bytes.now c.in_ok-refuse_long.ensures.ok _ c.in_ok-draft.ensures.ok c.scripts_of.result c.scripts_of.ensures.err

pub returns-in_err-draft-clause-err : goal.returns-in_err-draft-clause-err
returns-in_err-draft-clause-err g c =
    handed_on c.from_residual-in_err-draft.result c.in_err-draft.field-0.0 _ c.from_residual-in_err-draft.ensures.1
    (first_fault c.args.size c.args.bytes.now c.in_ok-refuse_long.ensures.ok _ c.in_err-draft.ensures.err)
