use Rattle.wire_fence.proofs.Events.{calls_are_arrivals}
use Rattle.wire_fence.proofs.laws.calls_are_arrivals.Goals as goal

pub returns : goal.returns
returns c = calls_are_arrivals
