-- Which ranks wait for which where a run stands, and deadlocks.
use Rattle.std.specs.Prelude.{◌≡◌, ℕ, List, Some}
use Rattle.wire_runs.specs.Plan.{Plan, Event, Publish, LookupWait, kind}
use Rattle.wire_runs.specs.State.{State, next_event, next_kind, IsDone}
use Rattle.wire_runs.specs.Order.{Edge}
use Rattle.wire_circles.specs.Circles.{IsCircle}

-- p's next event waits for x: x is a source of it, or publishes the name for which it waits
pub data IsAwaited (plan : Plan) (s : State) (p : ℕ) (x : Event) : Type 0 where
  Source : Edge plan x (next_event s p) → IsAwaited plan s p x
  Publishes : (name : ℕ) → next_kind plan s p ≡ Some (LookupWait name) → kind plan x ≡ Some (Publish name) → IsAwaited plan s p x

-- p waits for q: for an event of q that hasn't happened. Of several publishes of its name it waits for each, though one
-- would do, and for a key only where that is put once
pub record RankWaits (plan : Plan) (s : State) (p q : ℕ) : Type 0 where
  pub event : Event
  pub rank : event.proc ≡ q
  pub awaited : IsAwaited plan s p event
  pub to_come : IsDone s event → ⊥

-- a deadlock: a circle of ranks that wait for each other
abbrev pub IsDeadlock : Plan → State → List ℕ → Type 0
IsDeadlock plan s circle = IsCircle (RankWaits plan s) circle
