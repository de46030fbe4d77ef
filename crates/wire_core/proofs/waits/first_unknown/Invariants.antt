use Rattle.std.proofs.Common.{◌≡◌, ◌-◌, ◌<◌, ℕ, length, true}
use Rattle.std.specs.Prelude.{slice_index_or}
use Rattle.wire_core.specs.Waiting.{is_known_wait}
use Rattle.wire_core.specs.declared.waits.Awaited.TheVariants.{Unknown}
use Rattle.wire_core.proofs.waits.first_unknown.Given as goal

abbrev pub invariant-known : goal.invariant-known
invariant-known l = (p : ℕ) → p < l.number → is_known_wait (slice_index_or l.awaited p Unknown) ≡ true

abbrev pub decreases-known : goal.decreases-known
decreases-known l = length l.awaited - l.number
