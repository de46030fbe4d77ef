-- What is looked at of each event.
use Rattle.std.specs.Prelude.{◌≡◌, ◌<◌, ◌⊎◌, ℕ, List, Some, slice_get}
use Rattle.wire_runs.specs.Plan.{Plan, Event}
use Rattle.wire_runs.specs.Order.{Edge}
use Rattle.wire_size_laws.specs.Stages.{StageKey, IsLess}
use Rattle.wire_plan.specs.Index.{previous_of}
use Rattle.wire_pattern_stages.specs.Lookups.{IsForOne}

-- x has a lesser key than y, or is earlier in its process
abbrev pub Goes : (Event → StageKey) → Event → Event → Type 0
Goes key x y = IsLess (key x) (key y) ⊎ ((x.proc ≡ y.proc) × (x.at < y.at))

-- each of these does
abbrev pub AllGo : (Event → StageKey) → List Event → Event → Type 0
AllGo key xs y = (k : ℕ) (x : Event) → slice_get xs k ≡ Some x → Goes key x y

-- no lesser key than the event before it
abbrev pub IsAlong : (Event → StageKey) → Event → Type 0
IsAlong key y = (x : Event) → previous_of y ≡ Some x → IsLess (key x) (key y) ⊎ (key x ≡ key y)

-- what stages want of an event: if it is a lookup-wait, its name is published once; its key isn't less than that of the event
-- before it; and each event for which it waits goes before it
pub record IsRight (key : Event → StageKey) (plan : Plan) (y : Event) : Type 0 where
  pub one : IsForOne plan y
  pub along : IsAlong key y
  pub across : (x : Event) → Edge plan x y → Goes key x y

-- each of the first n events of a process is right
abbrev pub AreRight : (Event → StageKey) → Plan → ℕ → ℕ → Type 0
AreRight key plan p n = (i : ℕ) → i < n → IsRight key plan (record { proc = p; at = i })
