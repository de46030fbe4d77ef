-- What is looked up in a plan: the sources of an event, the puts of a key, the calls on a name, and the fences and gets
-- that bring a key to a node.
use Rattle.std.specs.Prelude.{◌≡◌, ◌≢◌, ◌==◌, ℕ, zero, suc, ◌<◌, ◌≤◌, List, ◌++◌, Bool, true, false, Option}
use Rattle.std.specs.Prelude.{Some, None, map, option_map, option_to_list, slice_get, MatchOption}
use Rattle.wire_runs.specs.Plan.{Plan, Event, Kind, Put, Get, Publish, Lookup, LookupWait, Unpublish, UnpublishAll}
use Rattle.wire_runs.specs.Plan.{kind, event_of, admits}
use Rattle.wire_types.specs.declared.Event.{Event as CodeEvent}
use Rattle.wire_types.specs.declared.Scope.{Scope}
use Rattle.wire_runs.specs.Puts.{own, stored, scope_of}
use Rattle.wire_runs.specs.Fences.{is_full, is_collecting}
use Rattle.wire_runs.specs.Order.{Edge, Stores, IsArrival, PublishesOnce}
use Rattle.wire_runs.specs.Races.{ByFence, Brings, GetDelivers, IsPutOnce}
use Rattle.wire_runs.specs.EventLists.{AreAll}

-- these are the sources of the edges into y, and no others
pub record AreSources (plan : Plan) (y : Event) (sources : List Event) : Type 0 where
  pub only : (k : ℕ) (z : Event) → slice_get sources k ≡ Some z → Edge plan z y
  pub all : (z : Event) → Edge plan z y → (k : ℕ) × (slice_get sources k ≡ Some z)

-- the event before it in its process
abbrev pub previous_at : ℕ → ℕ → Option Event
previous_at p zero = None
previous_at p (suc i) = Some (record { proc = p; at = i })

abbrev pub previous_of : Event → Option Event
previous_of y = previous_at y.proc y.at

-- what an event waits for: the event before it, a commit or a publish, and the arrivals at a fence
abbrev pub source_list : Option CodeEvent → Option CodeEvent → List CodeEvent → List Event
source_list previous single arrivals = option_to_list (option_map event_of previous) ++ (option_to_list (option_map event_of single) ++ map event_of arrivals)

-- y is a get of another process's key that is put once, and z the commit that stores the key; or y is a waiting lookup
-- of a name that is published once, and z that publish
pub data AwaitsOnly (plan : Plan) (y z : Event) : Type 0 where
  AwaitsCommit : (key : ℕ) → kind plan y ≡ Some (Get z.proc key) → z.proc ≢ y.proc → IsPutOnce plan z.proc key → Stores plan z key → AwaitsOnly plan y z
  AwaitsPublish : (name : ℕ) → kind plan y ≡ Some (LookupWait name) → PublishesOnce plan z name → AwaitsOnly plan y z

-- what is found, if anything, is that commit or that publish
pub record FindsAwaited (plan : Plan) (y : Event) (found : Option Event) : Type 0 where
  pub only : (z : Event) → found ≡ Some z → AwaitsOnly plan y z
  pub all : (z : Event) → AwaitsOnly plan y z → found ≡ Some z

-- x is its process's first put of the key
pub record IsFirstPut (plan : Plan) (x : Event) (key : ℕ) : Type 0 where
  pub scope : Scope
  pub is : kind plan x ≡ Some (Put key scope)
  pub first : own plan x.proc key x.at ≡ None

-- the arrivals at the j-th fence over these members
abbrev pub AreArrivals : Plan → List ℕ → ℕ → List Event → Type 0
AreArrivals plan members j places = AreAll (IsArrival plan members j) places

-- whether it is a call on this name alone
abbrev pub is_plain_call : ℕ → Option Kind → Bool
is_plain_call name (Some (Publish n)) = n == name
is_plain_call name (Some (Lookup n)) = n == name
is_plain_call name (Some (LookupWait n)) = n == name
is_plain_call name (Some (Unpublish n)) = n == name
is_plain_call name _ = false

-- the calls on a name alone
abbrev pub AreNameCalls : Plan → ℕ → List Event → Type 0
AreNameCalls plan name places = AreAll (λ x. is_plain_call name (kind plan x) ≡ true) places

-- the publishes of a name
abbrev pub ArePublishes : Plan → ℕ → List Event → Type 0
ArePublishes plan name places = AreAll (λ x. kind plan x ≡ Some (Publish name)) places

-- the calls of a process that take away all its names
abbrev pub AreSweeps : Plan → ℕ → List Event → Type 0
AreSweeps plan p places = AreAll (λ x. (x.proc ≡ p) × (kind plan x ≡ Some UnpublishAll)) places

-- the gets that bring p's key to the node
abbrev pub AreGetDeliveries : Plan → ℕ → ℕ → ℕ → List Event → Type 0
AreGetDeliveries plan p key node places = AreAll (GetDelivers plan p key node) places

-- p's event number `at` is its arrival at a fence that brings its key to the node
pub record IsDelivering (plan : Plan) (p key node at : ℕ) : Type 0 where
  pub members : List ℕ
  pub j : ℕ
  pub arrival : IsArrival plan members j (record { proc = p; at = at })
  pub brings : Brings plan p key node (ByFence members j)

-- the first such arrival that isn't before p's event number `from`, if there is one
abbrev pub IsNextDelivery : Plan → ℕ → ℕ → ℕ → ℕ → Option ℕ → Type 0
IsNextDelivery plan p key node from found =
    MatchOption found
    ((at : ℕ) → from ≤ at → IsDelivering plan p key node at → ⊥)
    (λ at. (from ≤ at) × IsDelivering plan p key node at × ((other : ℕ) → from ≤ other → other < at → IsDelivering plan p key node other → ⊥))

-- what p had stored under the key before its event number `at` is for processes of other nodes
pub record IsSent (plan : Plan) (p key at : ℕ) : Type 0 where
  pub put : ℕ
  pub committed : stored plan p key at ≡ Some put
  pub admitted : admits (scope_of plan p put) false ≡ true

-- x is an arrival at a fence that brings data: each member calls it, each with data collection
pub record BringsData (plan : Plan) (x : Event) : Type 0 where
  pub members : List ℕ
  pub j : ℕ
  pub arrival : IsArrival plan members j x
  pub full : is_full plan members j ≡ true
  pub collecting : is_collecting plan members j ≡ true

-- x is such an arrival of y's process, before y
pub record BringsDataBefore (plan : Plan) (y x : Event) : Type 0 where
  pub brings : BringsData plan x
  pub same : x.proc ≡ y.proc
  pub earlier : x.at < y.at

-- what is found, if anything, is the last of them
abbrev pub IsLastBringingArrival : Plan → Event → Option Event → Type 0
IsLastBringingArrival plan y found =
    MatchOption found
    ((x : Event) → BringsDataBefore plan y x → ⊥)
    (λ x. BringsDataBefore plan y x × ((z : Event) → BringsDataBefore plan y z → z.at ≤ x.at))
