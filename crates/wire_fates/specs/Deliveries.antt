-- What brings a key to a node before a get that is answered at once, or may bring it later.
use Rattle.std.specs.Prelude.{◌≡◌, ◌≢◌, ◌<◌, ◌≤◌, ℕ, List, Option, Some, MatchOption, length, slice_get}
use Rattle.wire_runs.specs.Plan.{Plan, Event, event_count, event_of, node_of}
use Rattle.wire_types.specs.declared.place.Event.{Event as CodeEvent}
use Rattle.wire_runs.specs.Order.{IsArrival, Live, Before}
use Rattle.wire_runs.specs.Races.{GetDelivers}
use Rattle.wire_plan.specs.Index.{IsDelivering, BringsDataBefore, IsSent}

-- z is an arrival at a fence
pub record Arrives (plan : Plan) (z : Event) : Type 0 where
  pub members : List ℕ
  pub j : ℕ
  pub arrival : IsArrival plan members j z

-- the event is one of these, of the process p
pub record IsAmong (p : ℕ) (event : Event) (places : List Event) : Type 0 where
  pub k : ℕ
  pub is : slice_get places k ≡ Some event
  pub proc : event.proc ≡ p

-- each of these events is of a higher process than those in front of it, so each process has one at most
abbrev pub AreOfRising : List Event → Type 0
AreOfRising places = (k l : ℕ) (y z : Event) → k < l → slice_get places k ≡ Some y → slice_get places l ≡ Some z → y.proc < z.proc

-- what is found is the event of the process p among these, and where nothing is found there is none
abbrev pub IsFoundAmong : ℕ → List Event → Option CodeEvent → Type 0
IsFoundAmong p places found = MatchOption found ((x : Event) → IsAmong p x places → ⊥) (λ x. IsAmong p (event_of x) places)

-- one of these events is earlier in the event's own process
pub record IsBehindOwn (event : Event) (places : List Event) : Type 0 where
  pub k : ℕ
  pub own : Event
  pub is : slice_get places k ≡ Some own
  pub same : own.proc ≡ event.proc
  pub earlier : own.at < event.at

-- all arrivals at the fence of this arrival are live, and before the get
pub record IsSure (plan : Plan) (get arrival : Event) : Type 0 where
  pub fence : Arrives plan arrival
  pub all_live : (z : Event) → IsArrival plan fence.members fence.j z → Live plan z
  pub all_before : (z : Event) → IsArrival plan fence.members fence.j z → Before plan z get

-- a fence that brings p's key to the node is complete before the get, told by p's arrival at it
abbrev pub IsSureByFence : Plan → ℕ → ℕ → ℕ → Event → Type 0
IsSureByFence plan p key node get = (at : ℕ) × IsDelivering plan p key node at × IsSure plan get (record { proc = p; at = at })

-- the node is the get's own, and the last fence with data that the get's process has left before the get brings p's key
-- there: p has sent the key before its arrival at that fence
pub record IsSureByOwnFence (plan : Plan) (p key node : ℕ) (get : Event) : Type 0 where
  pub on_node : node_of plan get.proc ≡ node
  pub own : Event
  pub brings : BringsDataBefore plan get own
  pub last : (z : Event) → BringsDataBefore plan get z → z.at ≤ own.at
  pub arrival : Event
  pub proc : arrival.proc ≡ p
  pub of_it : IsArrival plan brings.brings.members brings.brings.j arrival
  pub sent : IsSent plan p key arrival.at

-- all arrivals at the fence of this arrival are live, and the get is before none of them
pub record MayBeLate (plan : Plan) (get arrival : Event) : Type 0 where
  pub fence : Arrives plan arrival
  pub all_live : (z : Event) → IsArrival plan fence.members fence.j z → Live plan z
  pub before_none : (z : Event) → IsArrival plan fence.members fence.j z → ¬ (Before plan get z)

-- the fence of this arrival may be late, and the source is its first arrival that isn't before the get
pub record IsLate (plan : Plan) (get arrival source : Event) : Type 0 where
  pub may : MayBeLate plan get arrival
  pub of_it : IsArrival plan may.fence.members may.fence.j source
  pub not_before : ¬ (Before plan source get)
  pub first : (z : Event) → IsArrival plan may.fence.members may.fence.j z → ¬ (Before plan z get) → source.proc ≤ z.proc

-- all of these events are live
abbrev pub AllLive : Plan → List Event → Type 0
AllLive plan places = (k : ℕ) (z : Event) → slice_get places k ≡ Some z → Live plan z

-- the get is before none of these events
abbrev pub NoneAfter : Plan → Event → List Event → Type 0
NoneAfter plan get places = (k : ℕ) (z : Event) → slice_get places k ≡ Some z → ¬ (Before plan get z)

-- the first n of these events are before the get
abbrev pub AreBefore : Plan → Event → List Event → ℕ → Type 0
AreBefore plan get places n = (k : ℕ) (z : Event) → k < n → slice_get places k ≡ Some z → Before plan z get

-- the event of number k isn't before the get, and those in front of it are
pub record IsLateAt (plan : Plan) (get : Event) (places : List Event) (x : Event) : Type 0 where
  pub k : ℕ
  pub is : slice_get places k ≡ Some x
  pub not_before : ¬ (Before plan x get)
  pub others : AreBefore plan get places k

-- the first of these events that isn't before the get
abbrev pub IsFirstLate : Plan → Event → List Event → Option CodeEvent → Type 0
IsFirstLate plan get places found = MatchOption found (AreBefore plan get places (length places)) (λ x. IsLateAt plan get places (event_of x))

-- e is the first arrival of p, from its event number `from` on, that delivers the key
pub record IsArrivalFrom (plan : Plan) (p key node from : ℕ) (e : CodeEvent) : Type 0 where
  pub proc : e.proc.number ≡ p
  pub after : from ≤ e.at
  pub there : e.at < event_count plan p
  pub delivers : IsDelivering plan p key node e.at
  pub others : (at : ℕ) → from ≤ at → at < e.at → ¬ (IsDelivering plan p key node at)

-- this is p's first arrival, from its event number `from` on, that delivers the key, or there is none
abbrev pub IsNextArrival : Plan → ℕ → ℕ → ℕ → ℕ → Option CodeEvent → Type 0
IsNextArrival plan p key node from found = MatchOption found ((at : ℕ) → from ≤ at → ¬ (IsDelivering plan p key node at))
    (λ e. IsArrivalFrom plan p key node from e)

-- the events at these two places are of one process
pub record AreOfOne (places : List Event) (i j : ℕ) : Type 0 where
  pub first : Event
  pub second : Event
  pub first_is : slice_get places i ≡ Some first
  pub second_is : slice_get places j ≡ Some second
  pub same : first.proc ≡ second.proc

-- the event at place n, if there is one, is of another process than that at place i
abbrev pub EndsAt : List Event → ℕ → ℕ → Type 0
EndsAt places i n = (y z : Event) → slice_get places i ≡ Some y → slice_get places n ≡ Some z → z.proc ≢ y.proc

-- some get that brings p's key to the node is before the get
abbrev pub IsSureByGet : Plan → ℕ → ℕ → ℕ → Event → Type 0
IsSureByGet plan p key node get = (z : Event) × GetDelivers plan p key node z × Before plan z get
