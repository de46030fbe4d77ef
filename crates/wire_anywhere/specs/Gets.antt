-- The gets of a key, wherever their processes are, listed by owner and key: for the contracts of private functions.
use Rattle.std.specs.Prelude.{◌≡◌, ℕ, List, [], Bool, ◌&&◌, ◌==◌, true, Option, Some, None, Vec, map}
use Rattle.std.specs.declared.alloc.Global.{Global}
use Rattle.std.specs.HashMap.{get}
use Rattle.wire_runs.specs.Plan.{Plan, Event, Get, kind, event_of}
use Rattle.wire_runs.specs.EventLists.{IsLower, AreAll}
use Rattle.wire_runs.specs.Races.{GetBringsAway}
use Rattle.wire_types.specs.declared.Event.{Event as CodeEvent}
use Rattle.wire_anywhere.specs.declared.gets.GetTable.{GetTable}

-- z is a get of p's key, and the plan keeps what gets bring
pub record IsKeptGet (plan : Plan) (p key : ℕ) (z : Event) : Type 0 where
  pub keeps : plan.keep ≡ true
  pub is : kind plan z ≡ Some (Get p key)

abbrev pub AreKeptGets : Plan → ℕ → ℕ → List Event → Type 0
AreKeptGets plan p key places = AreAll (IsKeptGet plan p key) places

-- the gets that bring p's key away
abbrev pub AreCarrying : Plan → ℕ → ℕ → List Event → Type 0
AreCarrying plan p key places = AreAll (GetBringsAway plan p key) places

-- whether owner and key are the same
abbrev pub is_same : ℕ × ℕ → ℕ × ℕ → Bool
is_same a b = (a.0 == b.0) && (a.1 == b.1)

abbrev pub events_in : Option (Vec CodeEvent Global) → List Event
events_in None = []
events_in (Some list) = map event_of list.items

-- the list of an owner and a key
abbrev pub gets_under : GetTable → ℕ × ℕ → List Event
gets_under table asked = events_in (get is_same table.lists asked)

-- each list has the gets of that key of that owner
abbrev pub AreGetLists : Plan → GetTable → Type 0
AreGetLists plan table = (p key : ℕ) → AreKeptGets plan p key (gets_under table (p, key))

-- the same of those that stand before the i-th event of the q-th process
abbrev pub AreGetsTo : Plan → ℕ → ℕ → GetTable → Type 0
AreGetsTo plan q i table =
    (p key : ℕ) → AreAll (λ z. IsKeptGet plan p key z × IsLower z (record { proc = q; at = i })) (gets_under table (p, key))
