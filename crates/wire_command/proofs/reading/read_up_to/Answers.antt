use Rattle.std.proofs.Common.{◌∙◌, ap, refl, inr}
use Rattle.wire_types.specs.Counting.{one_more}
use Rattle.wire_command.proofs.reading.read_up_to.Goals as goal

pub returns-in-Err-clause-front : goal.returns-in-Err-clause-front
returns-in-Err-clause-front g c = tt

pub returns-in-Err-clause-bound : goal.returns-in-Err-clause-bound
returns-in-Err-clause-bound g c = tt

pub returns-in-Err-clause-quiet : goal.returns-in-Err-clause-quiet
returns-in-Err-clause-quiet g c = tt

pub returns-in-Err-clause-faults : goal.returns-in-Err-clause-faults
returns-in-Err-clause-faults g c = inr refl

pub returns-in-Err-clause-failed : goal.returns-in-Err-clause-failed
returns-in-Err-clause-failed g c is = c.in-Err.ensures.counted ∙ ap one_more c.asking.invariant.quiet
