-- What calls on names find: for the contracts of private functions.
use Rattle.std.specs.Prelude.{◌≡◌, ℕ, List, true, Some, None, slice_get}
use Rattle.wire_runs.specs.Plan.{Plan, Event, Publish, kind}
use Rattle.wire_runs.specs.State.{State, IsDone, next_event}
use Rattle.wire_runs.specs.Step.{IsReachable, is_publisher}

-- wherever y comes next, its name isn't there
abbrev pub FindsFree : Plan → ℕ → Event → Type 0
FindsFree plan name y = (s : State) → IsReachable plan s → next_event s y.proc ≡ y → s.names name ≡ None

-- wherever y comes next, its own process has published the name
abbrev pub FindsOwnName : Plan → ℕ → Event → Type 0
FindsOwnName plan name y = (s : State) → IsReachable plan s → next_event s y.proc ≡ y → is_publisher y.proc (s.names name) ≡ true

-- y is the one publish of the name
abbrev pub IsOnlyPublish : Plan → ℕ → Event → Type 0
IsOnlyPublish plan name y = (x : Event) → kind plan x ≡ Some (Publish name) → x ≡ y

-- x comes in no run
abbrev pub IsNever : Plan → Event → Type 0
IsNever plan x = (s : State) → IsReachable plan s → IsDone s x → ⊥

-- none of these events does
abbrev pub AreNever : Plan → List Event → Type 0
AreNever plan places = (k : ℕ) (x : Event) → slice_get places k ≡ Some x → IsNever plan x
