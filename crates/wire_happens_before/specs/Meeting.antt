-- What is kept of each fence: how many of its arrivals are marked, and then the join of their clocks: for the contracts
-- of private functions.
use Rattle.std.specs.Prelude.{◌≡◌, ◌≢◌, ◌⊎◌, ◌<◌, ◌≤◌, ℕ, List, Option, Some, None, length, slice_get, MatchOption}
use Rattle.wire_runs.specs.Plan.{Plan, Event, Leave, kind}
use Rattle.wire_scripts.specs.Scripts.{Scripts}
use Rattle.wire_scripts.specs.Planned.{plan_of}
use Rattle.wire_fence.specs.FenceTable.{FenceInfo, FenceTable, AreFencesOf, fence_at}
use Rattle.wire_fence.specs.declared.table.FenceId.{FenceId}
use Rattle.wire_plan.specs.Index.{AreArrivals}
use Rattle.wire_plan.specs.Meetings.{IsMet}
use Rattle.wire_clocks.specs.ClockTrees.{IsRoot}
use Rattle.wire_happens_before.specs.Clocks.{Clocks, marked_count, base_at, clock_of}
use Rattle.wire_happens_before.specs.Marking.{AreClocks, IsStuckAt, unmarked}
use Rattle.wire_happens_before.specs.declared.joins.Growth.{Growth}
use Rattle.wire_happens_before.specs.declared.joins.Meeting.{Meeting}

-- each of the first n events is marked
abbrev pub AreMarked : Clocks → List Event → ℕ → Type 0
AreMarked clocks places n = (k : ℕ) (z : Event) → k < n → slice_get places k ≡ Some z → z.at < marked_count clocks z.proc

-- the clock is the least that is not below those of the first n events
pub record IsJoin (clocks : Clocks) (places : List Event) (n : ℕ) (clock : ℕ → ℕ) : Type 0 where
  pub from : (q m : ℕ) → m < clock q → (k : ℕ) × (z : Event) × (k < n) × (slice_get places k ≡ Some z) × (m < clock_of clocks z q)
  pub covers : (q k : ℕ) (z : Event) → k < n → slice_get places k ≡ Some z → clock_of clocks z q ≤ clock q

-- all these events are marked, and the base of this root is the join of their clocks
pub record IsJoined (clocks : Clocks) (places : List Event) (n : ℕ) : Type 0 where
  pub there : IsRoot clocks.trees n
  pub marked : AreMarked clocks places (length places)
  pub join : IsJoin clocks places (length places) (base_at clocks n)

-- so many of these arrivals are marked, and the base that is kept, if any, is the join of their clocks
pub record IsMeeting (clocks : Clocks) (places : List Event) (meeting : Meeting) : Type 0 where
  pub marked : AreMarked clocks places meeting.count
  pub joined : (n : ℕ) → meeting.base ≡ Some n → IsJoined clocks places n

pub record IsEmpty (meeting : Meeting) : Type 0 where
  pub nobody : meeting.count ≡ 0
  pub none : meeting.base ≡ None

-- what is kept by the number of a fence, if anything, is of these arrivals
abbrev pub IsMeetingAt : Clocks → List Meeting → ℕ → List Event → Type 0
IsMeetingAt clocks meetings n places = (meeting : Meeting) → slice_get meetings n ≡ Some meeting → IsMeeting clocks places meeting

-- what is kept by the number of a fence is of the arrivals at it
abbrev pub AreMeetings : Plan → FenceTable → Clocks → List Meeting → Type 0
AreMeetings plan table clocks meetings =
    (n : ℕ) (info : FenceInfo) (places : List Event) →
    fence_at table n ≡ Some info → AreArrivals plan info.members info.nth places → IsMeetingAt clocks meetings n places

-- the plan of which it is
abbrev pub plan_in : Growth → Plan
plan_in growth = plan_of growth.plan.now

-- how many events of its plan aren't marked
abbrev pub left_in : Growth → ℕ
left_in growth = unmarked (plan_in growth) growth.clocks

-- the process's next event isn't ready
abbrev pub IsStuckIn : Growth → ℕ → Type 0
IsStuckIn growth p = IsStuckAt (plan_in growth) growth.clocks p

-- what holds while it grows: the fences are its plan's, and so are the clocks and what is kept of each fence
pub record IsGrowing (growth : Growth) : Type 0 where
  pub fences : AreFencesOf growth.plan.now growth.fences.now
  pub marked : AreClocks (plan_in growth) growth.clocks
  pub kept : AreMeetings (plan_in growth) growth.fences.now growth.clocks growth.meetings.items

-- the event at y is the end of the fence of this number
pub record IsLeaveOf (s : Scripts) (table : FenceTable) (y : Event) (number : ℕ) : Type 0 where
  pub members : List ℕ
  pub is : kind (plan_of s) y ≡ Some (Leave members)
  pub met : IsMet s table y number

-- the fence whose end the event at y is, if it is one
abbrev pub IsEndOf : Scripts → FenceTable → Event → Option FenceId → Type 0
IsEndOf s table y fence = MatchOption fence ((members : List ℕ) → kind (plan_of s) y ≡ Some (Leave members) → ⊥) (λ f. IsLeaveOf s table y f.number)

-- of the other fences only what is empty is new
abbrev pub AreOthersKept : List Meeting → List Meeting → ℕ → Type 0
AreOthersKept old new number = (n : ℕ) (meeting : Meeting) → n ≢ number → slice_get new n ≡ Some meeting → (slice_get old n ≡ Some meeting) ⊎ IsEmpty meeting

-- what was kept of a fence still is, and what is new is empty
abbrev pub AreAdded : List Meeting → List Meeting → Type 0
AreAdded old new = (n : ℕ) (meeting : Meeting) → slice_get new n ≡ Some meeting → (slice_get old n ≡ Some meeting) ⊎ IsEmpty meeting
