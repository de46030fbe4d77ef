-- The fences that events are part of, and who arrives at each fence.
use Rattle.std.specs.Prelude.{◌≡◌, ℕ, suc, List, [], ◌∷◌, ◌++◌, Bool, true, false, Option, Some, map, slice_index_or}
use Rattle.std.specs.Prelude.{◌==◌, if◌then◌else◌}
use Rattle.wire_runs.specs.Plan.{Kind, Arrive, Leave, Event, kind, event_of}
use Rattle.wire_runs.specs.Fences.{arrivals, is_member}
use Rattle.wire_types.specs.declared.Event.{Event as CodeEvent}
use Rattle.wire_scripts.specs.Scripts.{Scripts}
use Rattle.wire_scripts.specs.Planned.{plan_of}
use Rattle.wire_fence.specs.FenceTable.{FenceInfo, FenceTable, fence_at}
use Rattle.wire_runs.specs.Order.{IsArrival}
use Rattle.wire_runs.specs.EventLists.{IsLower, AreAll}
use Rattle.wire_plan.specs.Index.{AreArrivals}

-- whether the event is one of the two halves of a fence
abbrev pub is_of_fence : Option Kind → Bool
is_of_fence (Some (Arrive members collect)) = true
is_of_fence (Some (Leave members)) = true
is_of_fence _ = false

-- the members of its fence
abbrev pub fence_members : Option Kind → List ℕ
fence_members (Some (Arrive members collect)) = members
fence_members (Some (Leave members)) = members
fence_members _ = []

-- the number is that of the fence of the event at x: its members, of whom x's process is one, and how many fences over
-- them that process has arrived at, this one too
pub record IsMet (s : Scripts) (table : FenceTable) (x : Event) (number : ℕ) : Type 0 where
  pub fence : FenceInfo
  pub there : fence_at table number ≡ Some fence
  pub members : fence.members ≡ fence_members (kind (plan_of s) x)
  pub member : is_member fence.members x.proc ≡ true
  pub nth : arrivals (plan_of s) x.proc fence.members (suc x.at) ≡ fence.nth

-- the arrivals in the list of a fence's number
abbrev pub arrivals_in : List (List CodeEvent) → ℕ → List Event
arrivals_in lists number = map event_of (slice_index_or lists number [])

-- these are the arrivals at each fence of the table, by its number
abbrev pub AreArrivalLists : Scripts → FenceTable → List (List CodeEvent) → Type 0
AreArrivalLists s table lists = (number : ℕ) (info : FenceInfo) → fence_at table number ≡ Some info →
    AreArrivals (plan_of s) info.members info.nth (arrivals_in lists number)

-- so far, for the contracts of private functions: these are the arrivals that stand before p's event number `at`
abbrev pub AreArrivalListsTo : Scripts → FenceTable → ℕ → ℕ → List (List CodeEvent) → Type 0
AreArrivalListsTo s table p at lists =
    (number : ℕ) (info : FenceInfo) → fence_at table number ≡ Some info →
    AreAll (λ z. IsArrival (plan_of s) info.members info.nth z × IsLower z (record { proc = p; at = at })) (arrivals_in lists number)

-- one event more in the list of this number
abbrev pub IsArrivalAdded : ℕ → CodeEvent → List (List CodeEvent) → List (List CodeEvent) → Type 0
IsArrivalAdded number kind old new = (n : ℕ) → arrivals_in new n ≡ if n == number then arrivals_in old n ++ event_of kind ∷ [] else arrivals_in old n
