-- What an event of a fence does.
use Rattle.std.specs.Prelude.{◌≡◌, ℕ, suc, List, Bool, false, Option, Some, None}
use Rattle.wire_runs.specs.Plan.{Plan, Kind, Arrive, Event, kind, kind_at}
use Rattle.wire_runs.specs.Puts.{stored}
use Rattle.wire_runs.specs.Fences.{arrivals}
use Rattle.wire_scripts.specs.Scripts.{Scripts}
use Rattle.wire_scripts.specs.Planned.{plan_of}
use Rattle.wire_fence.specs.FenceTable.{FenceTable}
use Rattle.wire_fence.specs.Arrivals.{one_arrived}
use Rattle.wire_runs.specs.Sight.{has_brought}
use Rattle.wire_plan.specs.Meetings.{IsMet}

-- the number, if there is one, is that of the fence at which the event at x arrives
abbrev pub ArrivesAt : Scripts → FenceTable → Event → Option ℕ → Type 0
ArrivesAt s table x None = (members : List ℕ) (collect : Bool) → kind (plan_of s) x ≡ Some (Arrive members collect) → ⊥
ArrivesAt s table x (Some number) = IsMet s table x number × ((members : List ℕ) × (collect : Bool) × (kind (plan_of s) x ≡ Some (Arrive members collect)))

-- how many members are missing at each fence after the arrival at a fence, where there is one
abbrev pub after_arrival : Option ℕ → List ℕ → List ℕ
after_arrival None missing = missing
after_arrival (Some number) missing = one_arrived number missing

abbrev pub brings_with : Plan → (ℕ → ℕ) → ℕ → ℕ → ℕ → Option Kind → Bool
brings_with plan cut p node n (Some (Arrive members collect)) = has_brought plan cut p node members (arrivals plan p members (suc n))
brings_with plan cut p node n _ = false

-- whether p's event number n is its arrival at a fence that has brought its data to the node
abbrev pub brings_at : Plan → (ℕ → ℕ) → ℕ → ℕ → ℕ → Bool
brings_at plan cut p node n = brings_with plan cut p node n (kind_at plan p n)

-- what p had stored under the key at an event, where there is one
abbrev pub stored_at : Plan → ℕ → ℕ → Option ℕ → Option ℕ
stored_at plan p key None = None
stored_at plan p key (Some n) = stored plan p key n
