use Rattle.std.proofs.Common.{◌≡◌, ◌<◌, ℕ, Some}
use Rattle.std.specs.Prelude.{slice_get}
use Rattle.wire_runs.specs.Plan.{event_of}
use Rattle.wire_happens_before.specs.Updates.{updates_at, TakesAway, IsCleared}
use Rattle.wire_happens_before.proofs.updates.UpdateLists.unpublish_all_names.Given as goal

abbrev pub invariant-loop-name : goal.invariant-loop-name
invariant-loop-name l = record {
  each : (n : ℕ) → TakesAway (event_of l.event) (updates_at l.initial.self n) (updates_at l.self n);
  cleared : (k n : ℕ) → k < l.name-index → slice_get l.names k ≡ Some n → IsCleared l.event.proc.number (updates_at l.self n);
}
