-- What a live call of a fence keeps that no library is blamed for: for the contracts of private functions.
use Rattle.std.specs.Prelude.{◌≡◌, ℕ, ◌≤◌, ◌<◌, List, [], Bool, true, Option, Some, None, slice_get, slice_index_or, MatchOption}
use Rattle.wire_types.specs.declared.Event.{Event as CodeEvent}
use Rattle.wire_runs.specs.Plan.{Plan, Event, Arrive, kind, event_of, event_count, set_of}
use Rattle.wire_runs.specs.Ends.{call_of}
use Rattle.wire_runs.specs.Order.{IsArrival, Live}
use Rattle.wire_scripts.specs.Scripts.{Scripts, set_at}
use Rattle.wire_scripts.specs.Planned.{plan_of}
use Rattle.wire_portable.specs.Words.{spelled, unrepeated, is_one_job, takes}
use Rattle.wire_portable.specs.declared.libraries.Library.{Library}
use Rattle.wire_spelling.specs.declared.spelling.Spelt.{Spelt}
use Rattle.wire_portable.specs.declared.fences.SetTable.{SetTable}
use Rattle.wire_portable.specs.declared.fences.FenceCall.{FenceCall}

-- the number of a spelling
abbrev pub number_of : Option Spelt → Option ℕ
number_of None = None
number_of (Some spelt) = Some spelt.number

-- how the call of an event spells its set
abbrev pub spelt_at : Scripts → List (List (Option Spelt)) → Event → Option Spelt
spelt_at s rows z = slice_index_or (slice_index_or rows z.proc []) (call_of (plan_of s) z).call None

-- the number of that
abbrev pub numbered : Scripts → List (List (Option Spelt)) → Event → Option ℕ
numbered s rows z = number_of (spelt_at s rows z)

-- whether the processes of a set are of one job is told by the table
abbrev pub TellsJobs : Scripts → SetTable → Type 0
TellsJobs s table = (set : ℕ) → slice_index_or table.one_job.items set true ≡ is_one_job s (set_at s.sets set)

-- how the table says that a set is spelt
abbrev pub spelt_first : SetTable → ℕ → Option ℕ
spelt_first table set = slice_index_or table.spelt.items set None

-- each of these is an event of the plan
abbrev pub AreEventsOfPlan : Plan → List Event → Type 0
AreEventsOfPlan plan places = (k : ℕ) (x : Event) → slice_get places k ≡ Some x → x.at < event_count plan x.proc

-- none of the first n of these spells its set so
abbrev pub NoneSpelt : Scripts → List (List (Option Spelt)) → Option ℕ → List Event → ℕ → Type 0
NoneSpelt s rows number places n = (k : ℕ) (x : Event) → k < n → slice_get places k ≡ Some x → numbered s rows x ≡ number → ⊥

-- the one of number k does, and none in front of it
pub record IsSpeltAt (s : Scripts) (rows : List (List (Option Spelt))) (number : Option ℕ) (places : List Event) (x : Event) : Type 0 where
  pub k : ℕ
  pub is : slice_get places k ≡ Some x
  pub alike : numbered s rows x ≡ number
  pub others : NoneSpelt s rows number places k

-- the first of these that does
abbrev pub IsFirstSpelt : Scripts → List (List (Option Spelt)) → Option ℕ → List Event → Option CodeEvent → Type 0
IsFirstSpelt s rows number places found = MatchOption found (Unit {0}) (λ x. IsSpeltAt s rows number places (event_of x))

-- of the arrivals at a fence whose calls spell the set so, that of the lowest process
pub record IsLowestSpelt (s : Scripts) (rows : List (List (Option Spelt))) (number : Option ℕ) (members : List ℕ) (j : ℕ) (first : Event) : Type 0 where
  pub arrival : IsArrival (plan_of s) members j first
  pub alike : numbered s rows first ≡ number
  pub lowest : (z : Event) → IsArrival (plan_of s) members j z → numbered s rows z ≡ number → first.proc ≤ z.proc

-- the call of a live arrival spells its set as the table says, names nobody twice, is of a set that the library takes, and
-- collects as the first arrival does whose call spells the set alike
pub record IsPlainCall (library : Library) (s : Scripts) (rows : List (List (Option Spelt))) (table : SetTable) (members : List ℕ) (collect : Bool) (z : Event) : Type 0 where
  pub set : ℕ
  pub its : set_of (set_at s.sets set) ≡ members
  pub number : ℕ
  pub spelt : spelled rows (call_of (plan_of s) z) ≡ Some number
  pub as_first : spelt_first table set ≡ Some number
  pub taken : takes library s (set_at s.sets set) ≡ true
  pub first : Event
  pub lowest : (j : ℕ) → IsArrival (plan_of s) members j z → IsLowestSpelt s rows (Some number) members j first
  pub agrees : kind (plan_of s) first ≡ Some (Arrive members collect)

-- so it is of an event, if that is a live arrival
abbrev pub IsPlainArrival : Library → Scripts → List (List (Option Spelt)) → SetTable → Event → Type 0
IsPlainArrival library s rows table z =
    (members : List ℕ) (collect : Bool) → kind (plan_of s) z ≡ Some (Arrive members collect) → Live (plan_of s) z →
    IsPlainCall library s rows table members collect z

-- how a call spells a set, where it names nobody twice
abbrev pub NamesNobodyTwice : Option Spelt → Type 0
NamesNobodyTwice spelt = (number : ℕ) × (unrepeated spelt ≡ Some number) × (number_of spelt ≡ Some number)

-- what a call of a fence keeps, `first` being the first arrival there that spells the set alike
pub record KeepsFenceRules (library : Library) (s : Scripts) (rows : List (List (Option Spelt))) (table : SetTable) (first : Event) (call : FenceCall) : Type 0 where
  pub agrees : (members : List ℕ) (collect : Bool) → kind (plan_of s) first ≡ Some (Arrive members collect) → collect ≡ call.collect
  pub taken : takes library s (set_at s.sets call.set) ≡ true
  pub number : ℕ
  pub spelt : spelled rows (call_of (plan_of s) (event_of call.arrival)) ≡ Some number
  pub alike : numbered s rows (event_of call.arrival) ≡ Some number
  pub as_first : spelt_first table call.set ≡ Some number
