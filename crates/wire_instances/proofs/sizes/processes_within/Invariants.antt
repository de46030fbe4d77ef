use Rattle.std.proofs.Common.{◌≡◌, ◌≤◌, ℕ, take}
use Rattle.std.specs.Prelude.{sum_by}
use Rattle.wire_instances.proofs.sizes.processes_within.Given as goal

abbrev pub invariant-loop-number : goal.invariant-loop-number
invariant-loop-number l = (l.total ≡ sum_by (λ (size : ℕ). size) (take l.number l.sizes)) × (l.total ≤ l.most)
