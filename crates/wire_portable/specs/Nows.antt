-- What a get that is answered at once may see, or surely sees: for the contracts of private functions.
use Rattle.std.specs.Prelude.{◌≡◌, ◌≢◌, ◌<◌, ◌≤◌, ℕ, suc, List, Bool, true, false, Option, Some, MatchOption, slice_get}
use Rattle.wire_types.specs.declared.Event.{Event as CodeEvent}
use Rattle.wire_types.specs.declared.Proc.{Proc}
use Rattle.wire_runs.specs.Plan.{Plan, Event, Get, GetNow, Leave, kind, node_of, event_of, admits}
use Rattle.wire_runs.specs.Puts.{stored, scope_of}
use Rattle.wire_runs.specs.Fences.{arrivals, is_member}
use Rattle.wire_runs.specs.Order.{Stores, IsArrival, Live, Before}
use Rattle.wire_runs.specs.Races.{IsPutOnce, FenceDelivers, FenceBringsAway, ComesSurely}
use Rattle.wire_runs.specs.Placings.{HasSurely}
use Rattle.wire_runs.specs.EventLists.{IsLower}
use Rattle.wire_plan.specs.Index.{IsDelivering, AreArrivals}
use Rattle.wire_library_laws.specs.Library.{Family, Words}
use Rattle.wire_library_laws.specs.Portable.{IsAsked, IsFor, ComesWithin, SeesNoRemote, LibrariesHave, IsPortableNow}
use Rattle.wire_library_laws.specs.Anywhere.{OwnCallsHave, IsPortableNowAnywhere}
use Rattle.wire_portable.specs.Gets.{place_in, AreOpenGets}
use Rattle.wire_portable.specs.Judging.{NoRewrites, AreFor}
use Rattle.wire_portable.specs.Searched.{MayBe}

-- what other processes get of p's keys is for them, where they may be on another node
abbrev pub GetsAreFor : Bool → Plan → Type 0
GetsAreFor anywhere plan =
    (z : Event) (p key : ℕ) → kind plan z ≡ Some (Get p key) → z.proc ≢ p → IsAsked plan z → MayBe anywhere plan false p z.proc → IsFor plan p key false

-- what a get-now of p's key has to keep on p's node, and on another
abbrev pub IsNearNowFine : Plan → ℕ → ℕ → Event → Type 0
IsNearNowFine plan p key g = NoRewrites plan → SeesNoRemote plan p key g

pub record IsFarNowFine (anywhere : Bool) (family : Family) (words : Words) (plan : Plan) (p key : ℕ) (g : Event) : Type 0 where
  pub there : anywhere ≡ false → NoRewrites plan → GetsAreFor anywhere plan → IsPortableNow family words plan p key g
  pub away : anywhere ≡ true → NoRewrites plan → GetsAreFor anywhere plan → IsPortableNowAnywhere family words plan p key g

-- both, where its process may be there
pub record IsFineNow (anywhere : Bool) (family : Family) (words : Words) (plan : Plan) (p key : ℕ) (g : Event) : Type 0 where
  pub near : MayBe anywhere plan true p g.proc → SeesNoRemote plan p key g
  pub there : anywhere ≡ false → MayBe anywhere plan false p g.proc → IsPortableNow family words plan p key g
  pub away : anywhere ≡ true → IsPortableNowAnywhere family words plan p key g

-- g is a live get-now of another process's key
pub record IsLiveNow (plan : Plan) (p key : ℕ) (g : Event) : Type 0 where
  pub is : kind plan g ≡ Some (GetNow p key)
  pub another : g.proc ≢ p
  pub is_live : Live plan g

-- these are the gets of p's keys that are listed where g is made
abbrev pub AreListedGets : Bool → Plan → ℕ → Event → List Event → Type 0
AreListedGets anywhere plan p g places = AreOpenGets anywhere plan p (place_in anywhere plan g.proc) places

-- it is surely there, by the rules and in each library
abbrev pub IsSureNow : Family → Words → Plan → ℕ → ℕ → Event → Type 0
IsSureNow family words plan p key g = ComesSurely plan p key (node_of plan g.proc) g × LibrariesHave family words plan p key g

-- so it is wherever processes are, by the calls of g's own process
abbrev pub IsSureItself : Family → Words → Plan → ℕ → ℕ → Event → Type 0
IsSureItself family words plan p key g = HasSurely plan p key g.proc g × OwnCallsHave family words plan p key g

-- these are gets of p's keys, the lower first
pub record AreGetsOf (plan : Plan) (p : ℕ) (places : List Event) : Type 0 where
  pub only : (k : ℕ) (z : Event) → slice_get places k ≡ Some z → (key : ℕ) × (kind plan z ≡ Some (Get p key))
  pub rising : (k l : ℕ) (y z : Event) → k < l → slice_get places k ≡ Some y → slice_get places l ≡ Some z → IsLower y z

-- what these get of p's keys is for processes of other nodes
abbrev pub AreForReaders : Plan → ℕ → List Event → Type 0
AreForReaders plan p places = (k : ℕ) (z : Event) (key : ℕ) → slice_get places k ≡ Some z → kind plan z ≡ Some (Get p key) → IsFor plan p key false

-- nothing that p commits under the key comes to another node
abbrev pub NeverAway : Plan → ℕ → ℕ → Type 0
NeverAway plan p key =
    (x : Event) (n u : ℕ) → x.proc ≡ p → Live plan x → n ≤ suc x.at → stored plan p key n ≡ Some u → admits (scope_of plan p u) false ≡ true → ⊥

-- x is the live commit that stores the key, which is put once and is for processes of other nodes
pub record IsStoreAway (plan : Plan) (owner : Proc) (key : ℕ) (x : CodeEvent) : Type 0 where
  pub its : x.proc ≡ owner
  pub stores : Stores plan (event_of x) key
  pub is_live : Live plan (event_of x)
  pub once : IsPutOnce plan owner.number key
  pub for_others : NoRewrites plan → AreFor plan owner.number key false true

-- what is found, if anything, is that commit
abbrev pub IsFoundAway : Plan → Proc → ℕ → Option CodeEvent → Type 0
IsFoundAway plan owner key found = MatchOption found (NoRewrites plan → NeverAway plan owner.number key) (λ x. IsStoreAway plan owner key x)

-- x is the commit that stores the owner's key
abbrev pub IsStoreOf : Plan → Proc → ℕ → CodeEvent → Type 0
IsStoreOf plan owner key x = (x.proc ≡ owner) × Stores plan (event_of x) key

-- z is a live get of one of p's keys, which may bring this key
pub record MayCarry (plan : Plan) (p key : ℕ) (z : Event) : Type 0 where
  pub other_key : ℕ
  pub is : kind plan z ≡ Some (Get p other_key)
  pub is_live : Live plan z
  pub within : other_key ≢ key → ComesWithin plan p key z

-- g is before each of these that may bring the key
abbrev pub GetsComeLater : Plan → ℕ → ℕ → Event → List Event → Type 0
GetsComeLater plan p key g places = (k : ℕ) (z : Event) → slice_get places k ≡ Some z → MayCarry plan p key z → Before plan g z

-- g is before an arrival at each fence that brings the key to the node
abbrev pub FencesComeLater : Plan → ℕ → ℕ → ℕ → Event → Type 0
FencesComeLater plan p key node g =
    (at : ℕ) (d : IsDelivering plan p key node at) → ((z : Event) → IsArrival plan d.members d.j z → Live plan z) →
    (z : Event) × IsArrival plan d.members d.j z × Before plan g z

-- z is a get of a key that comes no earlier than its owner's n-th event, and it is before g
pub record HasGot (plan : Plan) (n : ℕ) (g z : Event) : Type 0 where
  pub owner : ℕ
  pub key : ℕ
  pub is : kind plan z ≡ Some (Get owner key)
  pub commit : Event
  pub its : commit.proc ≡ owner
  pub stores : Stores plan commit key
  pub later : n ≤ commit.at
  pub before : Before plan z g

-- one of these is
pub record IsGotAmong (plan : Plan) (n : ℕ) (g : Event) (places : List Event) : Type 0 where
  pub k : ℕ
  pub get : Event
  pub is : slice_get places k ≡ Some get
  pub got : HasGot plan n g get

-- these are the arrivals at some fence
pub record AreOfFence (plan : Plan) (places : List Event) : Type 0 where
  pub members : List ℕ
  pub j : ℕ
  pub are : AreArrivals plan members j places

-- one of these is of a process on the node, of the owner's job
pub record HasJobMember (plan : Plan) (job : ℕ → ℕ) (owner node : ℕ) (places : List Event) : Type 0 where
  pub k : ℕ
  pub arrival : Event
  pub is : slice_get places k ≡ Some arrival
  pub there : node_of plan arrival.proc ≡ node
  pub same : job arrival.proc ≡ job owner

-- a process on the node, one of those that arrive, has left the fence before g
pub record HasLeft (plan : Plan) (node : ℕ) (g : Event) (places : List Event) : Type 0 where
  pub k : ℕ
  pub arrival : Event
  pub is : slice_get places k ≡ Some arrival
  pub there : node_of plan arrival.proc ≡ node
  pub left : Before plan (record { proc = arrival.proc; at = suc arrival.at }) g

-- g's own process is one of those that arrive, earlier
pub record HasArrived (g : Event) (places : List Event) : Type 0 where
  pub k : ℕ
  pub arrival : Event
  pub is : slice_get places k ≡ Some arrival
  pub own : arrival.proc ≡ g.proc
  pub earlier : arrival.at < g.at

-- a process on the node has left before g the fence of these arrivals, and one there is of the owner's job
pub record IsLeftThere (plan : Plan) (job : ℕ → ℕ) (owner node : ℕ) (g : Event) (places : List Event) : Type 0 where
  pub other : HasJobMember plan job owner node places
  pub left : HasLeft plan node g places

-- so it is of a fence that brings p's key to the node
pub record IsLeft (plan : Plan) (job : ℕ → ℕ) (p key node : ℕ) (g : Event) : Type 0 where
  pub members : List ℕ
  pub j : ℕ
  pub delivers : FenceDelivers plan p key node members j
  pub other : ℕ
  pub member : is_member members other ≡ true
  pub there : node_of plan other ≡ node
  pub same : job other ≡ job p
  pub leave : Event
  pub is : kind plan leave ≡ Some (Leave members)
  pub nth : arrivals plan leave.proc members leave.at ≡ j
  pub on_node : node_of plan leave.proc ≡ node
  pub before : Before plan leave g

-- g's own process has left before it a fence that brings p's key away
pub record HasLeftItself (plan : Plan) (p key : ℕ) (g : Event) : Type 0 where
  pub members : List ℕ
  pub j : ℕ
  pub brings : FenceBringsAway plan p key members j
  pub at : ℕ
  pub arrival : IsArrival plan members j (record { proc = g.proc; at = at })
  pub earlier : at < g.at

-- z is a get of p's key, before g
abbrev pub HasBrought : Plan → ℕ → ℕ → Event → Event → Type 0
HasBrought plan p key g z = (kind plan z ≡ Some (Get p key)) × Before plan z g

-- g's own process has got p's key before it, and the plan keeps what gets bring
pub record HasKept (plan : Plan) (p key : ℕ) (g : Event) (places : List Event) : Type 0 where
  pub keeps : plan.keep ≡ true
  pub k : ℕ
  pub get : Event
  pub is : slice_get places k ≡ Some get
  pub own : get.proc ≡ g.proc
  pub brought : HasBrought plan p key g get

-- g's own process has got a key that comes no earlier than its owner's n-th event, before g
pub record HasGotItself (plan : Plan) (n : ℕ) (g : Event) (places : List Event) : Type 0 where
  pub among : IsGotAmong plan n g places
  pub own : among.get.proc ≡ g.proc
