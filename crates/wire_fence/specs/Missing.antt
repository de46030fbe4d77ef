-- What holds of the counts of missing members.
use Rattle.std.specs.Prelude.{◌≡◌, ℕ, suc, ◌<◌, List, Bool, true, false, Some, length, map, take, nat_le}
use Rattle.wire_runs.specs.Plan.{Arrive, kind_at, kinds_of, update}
use Rattle.wire_runs.specs.Fences.{arrivals, is_member}
use Rattle.wire_scripts.specs.Scripts.{Scripts, IsSound, set_at}
use Rattle.wire_scripts.specs.Planned.{planned_call, plan_of}
use Rattle.wire_fence.specs.FenceTable.{FenceInfo, FenceTable, AreFencesOf, fence_at, fence_count, written_calls}
use Rattle.wire_fence.specs.Arrivals.{TellsMissing, IsArriving, one_arrived, missing_at}

-- an event that is no arrival leaves the counts as they are
abbrev pub OtherEventsKeep : Type 0
OtherEventsKeep = (s : Scripts) (cut : ℕ → ℕ) (table : FenceTable) (missing : List ℕ) (p : ℕ) →
    ((members : List ℕ) (collect : Bool) → kind_at (plan_of s) p (cut p) ≡ Some (Arrive members collect) → ⊥) →
    TellsMissing s cut table missing → TellsMissing s (update cut p (suc (cut p))) table missing

-- an arrival at a fence leaves one member fewer missing there
abbrev pub ArrivalCounts : Type 0
ArrivalCounts = (s : Scripts) (cut : ℕ → ℕ) (table : FenceTable) (missing : List ℕ) (number p : ℕ) → AreFencesOf s table → IsArriving s cut table number p →
    TellsMissing s cut table missing → TellsMissing s (update cut p (suc (cut p))) table (one_arrived number missing)

-- somebody is missing at a fence where a member hasn't arrived
abbrev pub SomebodyIsMissing : Type 0
SomebodyIsMissing = (s : Scripts) (cut : ℕ → ℕ) (table : FenceTable) (missing : List ℕ) (number p : ℕ) (fence : FenceInfo) →
    fence_at table number ≡ Some fence →
    is_member fence.members p ≡ true → nat_le fence.nth (arrivals (plan_of s) p fence.members (cut p)) ≡ false →
    TellsMissing s cut table missing → 0 < missing_at missing number

-- and at one where a process is about to arrive
abbrev pub ArrivingIsMissing : Type 0
ArrivingIsMissing = (s : Scripts) (cut : ℕ → ℕ) (table : FenceTable) (missing : List ℕ) (number p : ℕ) → IsArriving s cut table number p →
    TellsMissing s cut table missing → 0 < missing_at missing number

-- how often a process arrives at fences over a set is how many fences over it it calls
abbrev pub CallsAreArrivals : Type 0
CallsAreArrivals = (s : Scripts) (p c set : ℕ) → IsSound s → set < length s.sets →
    arrivals (plan_of s) p (set_at s.sets set) (length (kinds_of (map (planned_call s) (take c (written_calls s p))))) ≡ fence_count set
    (take c (written_calls s p))
