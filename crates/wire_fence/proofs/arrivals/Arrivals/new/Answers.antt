use Rattle.wire_fence.proofs.Missing.{tells_first}
use Rattle.wire_fence.proofs.arrivals.Arrivals.new.Goals as goal

pub returns-clause-nobody : goal.returns-clause-nobody
returns-clause-nobody c = λ s fences. tells_first s c.args.fences.now c.in_ok-sizes.field-0.items fences c.in_ok-sizes.ensures
