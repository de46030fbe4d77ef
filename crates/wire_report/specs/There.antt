-- Events that are the plan's.
use Rattle.std.specs.Prelude.{◌≡◌, ℕ, ◌<◌, List, Some, slice_get}
use Rattle.wire_runs.specs.Plan.{Plan, event_count}
use Rattle.wire_types.specs.declared.Event.{Event}

-- each of these is an event of the plan
abbrev pub AreThere : Plan → List Event → Type 0
AreThere plan events = (k : ℕ) (e : Event) → slice_get events k ≡ Some e → e.at < event_count plan e.proc.number
