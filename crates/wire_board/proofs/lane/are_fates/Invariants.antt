use Rattle.std.proofs.Common.{◌≡◌, ℕ, ◌<◌, Some}
use Rattle.std.specs.Prelude.{◌≢◌, slice_get}
use Rattle.wire_scripts.specs.Planned.{plan_of}
use Rattle.wire_fates.specs.declared.Fate.{Fate}
use Rattle.wire_fates.specs.declared.Fate.TheVariants.{Waits}
use Rattle.wire_fates.specs.Fates.{IsFateOf}
use Rattle.wire_board.proofs.lane.are_fates.Given as goal

abbrev pub invariant-loop-at : goal.invariant-loop-at
invariant-loop-at l = (i : ℕ) (fate : Fate) → i < l.at → slice_get l.trail i ≡ Some fate → IsFateOf (plan_of l.settled) (record { proc = l.rank.number; at = i }) fate × (fate ≢ Waits)
