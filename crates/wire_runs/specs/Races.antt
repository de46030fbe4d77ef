-- What the checker looks for: keys that are put twice, and pairs of live calls that no chain orders.
use Rattle.std.specs.Prelude.{◌≡◌, ◌≢◌, ℕ, ◌<◌, ◌≤◌, List, true, false, Some, None}
use Rattle.wire_runs.specs.Plan.{Plan, Put, Get, GetNow, LookupWait, kind, event_count, node_of, same_node, admits}
use Rattle.wire_runs.specs.Plan.{Event}
use Rattle.wire_types.specs.declared.Scope.{Scope}
use Rattle.wire_runs.specs.Puts.{own, stored, put_count, scope_of}
use Rattle.wire_runs.specs.Fences.{is_member, is_full, is_collecting, has_node}
use Rattle.wire_runs.specs.Names.{writes_name, calls_name}
use Rattle.wire_runs.specs.Order.{Stores, IsArrival, PublishesOnce, Live, Before}

-- y puts again the key that x put first
pub record IsRewrite (plan : Plan) (x y : Event) : Type 0 where
  pub key : ℕ
  pub first_scope : Scope
  pub later_scope : Scope
  pub first_is : kind plan x ≡ Some (Put key first_scope)
  pub later_is : kind plan y ≡ Some (Put key later_scope)
  pub first : own plan x.proc key x.at ≡ None
  pub same : x.proc ≡ y.proc
  pub later : x.at < y.at

-- both are live, and no chain orders them
pub record IsUnordered (plan : Plan) (x y : Event) : Type 0 where
  pub live_x : Live plan x
  pub live_y : Live plan y
  pub not_before : ¬ (Before plan x y)
  pub not_after : ¬ (Before plan y x)

-- the owner puts the key once
abbrev pub IsPutOnce : Plan → ℕ → ℕ → Type 0
IsPutOnce plan p key = put_count plan p key (event_count plan p) ≡ 1

-- a get-now, and the commit that stores its key: a race wherever both processes are on one node
pub record IsNearRace (plan : Plan) (commit get : Event) (key : ℕ) : Type 0 where
  pub is : kind plan get ≡ Some (GetNow commit.proc key)
  pub another : get.proc ≢ commit.proc
  pub once : IsPutOnce plan commit.proc key
  pub stores : Stores plan commit key
  pub unordered : IsUnordered plan commit get

-- such a race where both are on one node
pub record IsNodeRace (plan : Plan) (commit get : Event) (key : ℕ) : Type 0 where
  pub near : IsNearRace plan commit get key
  pub node : same_node plan commit.proc get.proc ≡ true

-- a way by which a process's key comes to another node: a fence, or a get by a process there
pub data Delivery : Type 0 where
  ByFence : (members : List ℕ) → (j : ℕ) → Delivery
  ByGet : (get : Event) → Delivery

-- the events of a delivery
abbrev pub IsOf : Plan → Delivery → Event → Type 0
IsOf plan (ByFence members j) z = IsArrival plan members j z
IsOf plan (ByGet get) z = z ≡ get

-- the j-th fence over these members brings p's key to other nodes than p's, to those where it has a member
pub record FenceBringsAway (plan : Plan) (p key : ℕ) (members : List ℕ) (j : ℕ) : Type 0 where
  pub full : is_full plan members j ≡ true
  pub collecting : is_collecting plan members j ≡ true
  pub member : is_member members p ≡ true
  pub at : ℕ
  pub put : ℕ
  pub arrival : IsArrival plan members j (record { proc = p; at = at })
  pub committed : stored plan p key at ≡ Some put
  pub admitted : admits (scope_of plan p put) false ≡ true

-- a get brings p's key to its process's node, should that be another than p's, and the plan keeps what gets bring
pub record GetBringsAway (plan : Plan) (p key : ℕ) (get : Event) : Type 0 where
  pub keeps : plan.keep ≡ true
  pub is : kind plan get ≡ Some (Get p key)
  pub put : ℕ
  pub committed : stored plan p key (event_count plan p) ≡ Some put
  pub admitted : admits (scope_of plan p put) false ≡ true

abbrev pub BringsAway : Plan → ℕ → ℕ → Delivery → Type 0
BringsAway plan p key (ByFence members j) = FenceBringsAway plan p key members j
BringsAway plan p key (ByGet get) = GetBringsAway plan p key get

-- the j-th fence over these members brings p's key to the node
pub record FenceDelivers (plan : Plan) (p key node : ℕ) (members : List ℕ) (j : ℕ) : Type 0 where
  pub away : FenceBringsAway plan p key members j
  pub reaches : has_node plan members node ≡ true

-- a get by a process of the node brings p's key to it, and the plan keeps what gets bring
pub record GetDelivers (plan : Plan) (p key node : ℕ) (get : Event) : Type 0 where
  pub away : GetBringsAway plan p key get
  pub there : node_of plan get.proc ≡ node

abbrev pub Brings : Plan → ℕ → ℕ → ℕ → Delivery → Type 0
Brings plan p key node (ByFence members j) = FenceDelivers plan p key node members j
Brings plan p key node (ByGet get) = GetDelivers plan p key node get

-- a delivery of p's key to the node, all its events live
pub record Delivers (plan : Plan) (p key node : ℕ) (delivery : Delivery) : Type 0 where
  pub brings_it : Brings plan p key node delivery
  pub all_live : (z : Event) → IsOf plan delivery z → Live plan z

-- all events of some delivery are before the get
pub record ComesSurely (plan : Plan) (p key node : ℕ) (get : Event) : Type 0 where
  pub delivery : Delivery
  pub delivers : Delivers plan p key node delivery
  pub all_before : (z : Event) → IsOf plan delivery z → Before plan z get

-- a live get-now from another node, and the lowest event that isn't before it of a delivery; the get is before no event
-- of that delivery, and no delivery surely comes first
pub record IsDeliveryRace (plan : Plan) (source get : Event) (owner key : ℕ) : Type 0 where
  pub is : kind plan get ≡ Some (GetNow owner key)
  pub other : same_node plan owner get.proc ≡ false
  pub once : IsPutOnce plan owner key
  pub get_live : Live plan get
  pub not_sure : ¬ (ComesSurely plan owner key (node_of plan get.proc) get)
  pub delivery : Delivery
  pub delivers : Delivers plan owner key (node_of plan get.proc) delivery
  pub before_none : (z : Event) → IsOf plan delivery z → ¬ (Before plan get z)
  pub of_it : IsOf plan delivery source
  pub not_before : ¬ (Before plan source get)
  pub first : (z : Event) → IsOf plan delivery z → ¬ (Before plan z get) → source.proc ≤ z.proc

-- two calls on a name by different processes, x one that can change it; not the publish and a lookup-wait of a name
-- that is published once
pub record IsNameRace (plan : Plan) (x y : Event) (name : ℕ) : Type 0 where
  pub x_writes : writes_name plan name x (kind plan x) ≡ true
  pub y_calls : calls_name plan name y (kind plan y) ≡ true
  pub others : x.proc ≢ y.proc
  pub not_once : PublishesOnce plan x name → kind plan y ≢ Some (LookupWait name)
  pub unordered : IsUnordered plan x y

-- the checker finds nothing
pub record IsSettled (plan : Plan) : Type 0 where
  pub no_rewrite : (x y : Event) → ¬ (IsRewrite plan x y)
  pub no_node_race : (x y : Event) (key : ℕ) → ¬ (IsNodeRace plan x y key)
  pub no_delivery_race : (x y : Event) (owner key : ℕ) → ¬ (IsDeliveryRace plan x y owner key)
  pub no_name_race : (x y : Event) (name : ℕ) → ¬ (IsNameRace plan x y name)
