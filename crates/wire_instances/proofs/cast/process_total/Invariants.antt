use Rattle.std.proofs.Common.{◌≡◌, ◌<◌, ◌^◌, ℕ, take}
use Rattle.std.specs.Prelude.{sum_by}
use Rattle.wire_instances.proofs.cast.process_total.Given as goal

abbrev pub invariant-loop-size : goal.invariant-loop-size
invariant-loop-size l = (l.total ≡ sum_by (λ (size : ℕ). size) (take l.size-index l.sizes)) × (l.total < 2 ^ 31)
