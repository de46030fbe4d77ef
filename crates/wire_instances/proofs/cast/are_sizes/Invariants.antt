use Rattle.std.proofs.Common.{◌≡◌, ◌<◌, ℕ, true, Some, map}
use Rattle.std.specs.Prelude.{slice_get}
use Rattle.wire_pattern.specs.Planned.{single_in}
use Rattle.wire_pattern.specs.Views.{role_by}
use Rattle.wire_instances.proofs.cast.are_sizes.Given as goal

abbrev pub invariant-loop-number : goal.invariant-loop-number
invariant-loop-number l = (k : ℕ) → k < l.number → single_in (slice_get (map role_by l.roles) k) ≡ true → slice_get l.sizes k ≡ Some 1
