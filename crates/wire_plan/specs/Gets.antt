-- The gets that bring a key to a node, listed by owner, key and node: for the contracts of private functions.
use Rattle.std.specs.Prelude.{◌≡◌, ℕ, List, [], Bool, ◌&&◌, ◌==◌, true, Option, Some, None, Vec, map}
use Rattle.std.specs.declared.alloc.Global.{Global}
use Rattle.std.specs.HashMap.{get}
use Rattle.wire_runs.specs.Plan.{Plan, Event, Get, kind, node_of, event_of}
use Rattle.wire_runs.specs.EventLists.{IsLower, AreAll}
use Rattle.wire_types.specs.declared.Event.{Event as CodeEvent}
use Rattle.wire_plan.specs.declared.gets.GetTable.{GetTable}

-- z is a get of p's key by a process of the node, and the plan keeps what gets bring
pub record IsKeptGet (plan : Plan) (p key node : ℕ) (z : Event) : Type 0 where
  pub keeps : plan.keep ≡ true
  pub is : kind plan z ≡ Some (Get p key)
  pub there : node_of plan z.proc ≡ node

abbrev pub AreKeptGets : Plan → ℕ → ℕ → ℕ → List Event → Type 0
AreKeptGets plan p key node places = AreAll (IsKeptGet plan p key node) places

-- whether owner, key and node are the same
abbrev pub is_same : ℕ × ℕ × ℕ → ℕ × ℕ × ℕ → Bool
is_same a b = ((a.0 == b.0) && (a.1 == b.1)) && (a.2 == b.2)

abbrev pub events_in : Option (Vec CodeEvent Global) → List Event
events_in None = []
events_in (Some list) = map event_of list.items

-- the list of an owner, a key and a node
abbrev pub gets_under : GetTable → ℕ × ℕ × ℕ → List Event
gets_under table asked = events_in (get is_same table.lists asked)

-- each list has the gets of the plan that bring that key of that owner to that node
abbrev pub AreGetLists : Plan → GetTable → Type 0
AreGetLists plan table = (p key node : ℕ) → AreKeptGets plan p key node (gets_under table (p, key, node))

-- the same of those that stand before the i-th event of the q-th process
abbrev pub AreGetsTo : Plan → ℕ → ℕ → GetTable → Type 0
AreGetsTo plan q i table =
    (p key node : ℕ) → AreAll (λ z. IsKeptGet plan p key node z × IsLower z (record { proc = q; at = i })) (gets_under table (p, key, node))
