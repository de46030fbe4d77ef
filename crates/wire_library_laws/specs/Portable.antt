-- Portable plans: the conditions suffice for each library of a family to do what the rules say. They speak of the rules
-- alone, most of them of what is before what.
use Rattle.std.specs.Prelude.{◌≡◌, ◌≢◌, ◌⊎◌, ℕ, suc, List, Bool, true, false, Some, None, is_some}
use Rattle.wire_runs.specs.Plan.{Plan, Event, Commit, Get, GetNow, Publish, Unpublish, UnpublishAll, Leave, Fixed}
use Rattle.wire_runs.specs.Plan.{kind, node_of, same_node, admits}
use Rattle.wire_types.specs.declared.Reply.{Reply}
use Rattle.wire_runs.specs.Puts.{stored, scope_of}
use Rattle.wire_runs.specs.Fences.{arrivals}
use Rattle.wire_runs.specs.State.{State, next_kind}
use Rattle.wire_runs.specs.Names.{calls_name}
use Rattle.wire_runs.specs.Step.{IsReachable, is_publisher}
use Rattle.wire_runs.specs.Order.{Stores, IsArrival, Live, Before}
use Rattle.wire_runs.specs.Races.{IsRewrite, Delivery, ByFence, ByGet, IsOf, FenceDelivers, ComesSurely}
use Rattle.wire_library_laws.specs.Library.{Family, Words, IsJobMember, IsPlainFence}

-- y is the event right before g in its process
pub record IsRightBefore (y g : Event) : Type 0 where
  pub same : y.proc ≡ g.proc
  pub next : suc y.at ≡ g.at

-- x has ended when g is asked: it is the event right before g in its process, or before that one
pub record EndsFirst (plan : Plan) (x g : Event) : Type 0 where
  pub last : Event
  pub is : IsRightBefore last g
  pub leads : (x ≡ last) ⊎ Before plan x last

-- the call comes to be made
abbrev pub IsAsked : Plan → Event → Type 0
IsAsked plan g = (y : Event) → IsRightBefore y g → Live plan y

-- a live commit of p after which the key isn't there
pub record Lacks (plan : Plan) (p key : ℕ) (commit : Event) : Type 0 where
  pub is : kind plan commit ≡ Some Commit
  pub its : commit.proc ≡ p
  pub is_live : Live plan commit
  pub missing : stored plan p key (suc commit.at) ≡ None

-- a live commit of p before which the key isn't there
pub record Lacked (plan : Plan) (p key : ℕ) (commit : Event) : Type 0 where
  pub is : kind plan commit ≡ Some Commit
  pub its : commit.proc ≡ p
  pub is_live : Live plan commit
  pub missing : stored plan p key commit.at ≡ None

-- p's key is there when g is asked
pub record IsThereFirst (plan : Plan) (p key : ℕ) (g : Event) : Type 0 where
  pub event : Event
  pub its : event.proc ≡ p
  pub there : is_some (stored plan p key (suc event.at)) ≡ true
  pub first : EndsFirst plan event g

-- what p commits under the key is for processes of its node, or for those of other nodes
abbrev pub IsFor : Plan → ℕ → ℕ → Bool → Type 0
IsFor plan p key near =
    (event : Event) (u : ℕ) → event.proc ≡ p → Live plan event → stored plan p key (suc event.at) ≡ Some u → admits (scope_of plan p u) near ≡ true

-- a get that comes to be asked, of another process's key, on the owner's node or on another
pub record IsGetOf (plan : Plan) (near : Bool) (p key : ℕ) (g : Event) : Type 0 where
  pub is : kind plan g ≡ Some (Get p key)
  pub other : g.proc ≢ p
  pub where_it_is : same_node plan p g.proc ≡ near
  pub asked : IsAsked plan g

-- all commits of the owner that come before its key are made when the get is asked; flaky: the one that brings it too
pub record IsPortableNear (family : Family) (plan : Plan) (p key : ℕ) (g : Event) : Type 0 where
  pub scope : IsFor plan p key true
  pub first : (commit : Event) → Lacks plan p key commit → EndsFirst plan commit g
  pub flaky : family.flaky ≡ true → (commit : Event) → Lacked plan p key commit → EndsFirst plan commit g

-- at_once: the owner's first commit brings the key, or it is there when the get is asked
pub record IsPortableFar (family : Family) (plan : Plan) (p key : ℕ) (g : Event) : Type 0 where
  pub scope : IsFor plan p key false
  pub first : family.at_once ≡ true → (commit : Event) → Lacks plan p key commit → IsThereFirst plan p key g

-- two gets of one node of one owner's keys that can be under way at once: the owner's first commit brings the key of g,
-- or it is there when h is asked (not at_once: or it comes no later than the key of h)
abbrev pub AreMates : Family → Plan → ℕ → ℕ → ℕ → Event → Event → Type 0
AreMates family plan p key other_key g h =
    ¬ (EndsFirst plan g h) → ¬ (EndsFirst plan h g) → (commit : Event) → Lacks plan p key commit
    → (family.at_once ≡ false → is_some (stored plan p other_key (suc commit.at)) ≡ true) → IsThereFirst plan p key h

-- a live commit brings p's key, for processes of other nodes, and g doesn't end before it
pub record ComesWithin (plan : Plan) (p key : ℕ) (g : Event) : Type 0 where
  pub commit : Event
  pub its : commit.proc ≡ p
  pub stores : Stores plan commit key
  pub is_live : Live plan commit
  pub put : ℕ
  pub here : stored plan p key (suc commit.at) ≡ Some put
  pub admitted : admits (scope_of plan p put) false ≡ true
  pub late : ¬ (Before plan g commit)

-- what can bring p's key to the node in some library: a fence that collects, or a live get there of a key of p, unless it
-- ends before the key is committed
pub data MayBring (plan : Plan) (p key node : ℕ) : Delivery → Type 0 where
  fence : {members : List ℕ} {j : ℕ} → FenceDelivers plan p key node members j → ((z : Event) → IsArrival plan members j z → Live plan z) →
      MayBring plan p key node (ByFence members j)
  get : {g : Event} (other_key : ℕ) → kind plan g ≡ Some (Get p other_key) → node_of plan g.proc ≡ node → Live plan g →
      (other_key ≢ key → ComesWithin plan p key g) → MayBring plan p key node (ByGet g)

-- a get-now on another node that sees nothing: it is before an event of each delivery
abbrev pub SeesNothing : Plan → ℕ → ℕ → Event → Type 0
SeesNothing plan p key g =
    (delivery : Delivery) → MayBring plan p key (node_of plan g.proc) delivery → (z : Event) × IsOf plan delivery z × Before plan g z

-- each library of the family surely has p's key on the node of g: where fences bring, a process of the node has left one
-- that brings it, before g, and some member there is of p's job; or a get there of a key that comes no earlier is before g
pub data LibrariesHave (family : Family) (words : Words) (plan : Plan) (p key : ℕ) (g : Event) : Type 0 where
  left : (members : List ℕ) (j other : ℕ) (leave : Event) → family.brings ≡ true → FenceDelivers plan p key (node_of plan g.proc) members j →
      IsJobMember words plan members (node_of plan g.proc) p other → kind plan leave ≡ Some (Leave members) →
      arrivals plan leave.proc members leave.at ≡ j → node_of plan leave.proc ≡ node_of plan g.proc → Before plan leave g →
      LibrariesHave family words plan p key g
  got : (get commit : Event) (other_key u : ℕ) → kind plan get ≡ Some (Get p other_key) → node_of plan get.proc ≡ node_of plan g.proc →
      Before plan get g → commit.proc ≡ p → Stores plan commit other_key → stored plan p key (suc commit.at) ≡ Some u →
      admits (scope_of plan p u) false ≡ true → LibrariesHave family words plan p key g

-- a get-now on another node sees nothing, or surely the value, by the rules and in each library of the family
pub data IsPortableNow (family : Family) (words : Words) (plan : Plan) (p key : ℕ) (g : Event) : Type 0 where
  nothing : SeesNothing plan p key g → IsPortableNow family words plan p key g
  surely : ComesSurely plan p key (node_of plan g.proc) g → LibrariesHave family words plan p key g → IsPortableNow family words plan p key g

-- a get-now on the owner's node doesn't see a key that is for other nodes alone: it is before all that comes after it
abbrev pub SeesNoRemote : Plan → ℕ → ℕ → Event → Type 0
SeesNoRemote plan p key g =
    (event : Event) (u : ℕ) → event.proc ≡ p → Live plan event → stored plan p key (suc event.at) ≡ Some u → admits (scope_of plan p u) true ≡ false →
    Before plan g event

-- in no interleaving a publish finds its name there, or an unpublish finds that it isn't its process that published it
pub record AreNamesFine (plan : Plan) : Type 0 where
  pub fresh : (s : State) (p name : ℕ) → IsReachable plan s → next_kind plan s p ≡ Some (Publish name) → s.names name ≡ None
  pub held : (s : State) (p name : ℕ) → IsReachable plan s → next_kind plan s p ≡ Some (Unpublish name) → is_publisher p (s.names name) ≡ true

-- a call of a reserved key or name
abbrev pub IsFixed : Plan → Event → Type 0
IsFixed plan y = (r : Reply) × (kind plan y ≡ Some (Fixed r))

-- what holds for each call that comes to be made
pub record IsPortable (family : Family) (words : Words) (plan : Plan) : Type 0 where
  pub no_rewrite : (x y : Event) → ¬ (IsRewrite plan x y)
  pub near : (g : Event) (p key : ℕ) → IsGetOf plan true p key g → IsPortableNear family plan p key g
  pub far : (g : Event) (p key : ℕ) → IsGetOf plan false p key g → IsPortableFar family plan p key g
  pub mates : (g h : Event) (p key other_key : ℕ) → IsGetOf plan false p key g → IsGetOf plan false p other_key h → g.proc ≢ h.proc →
      node_of plan g.proc ≡ node_of plan h.proc → AreMates family plan p key other_key g h
  pub near_now : (g : Event) (p key : ℕ) → kind plan g ≡ Some (GetNow p key) → g.proc ≢ p → same_node plan p g.proc ≡ true → IsAsked plan g →
      SeesNoRemote plan p key g
  pub far_now : (g : Event) (p key : ℕ) → kind plan g ≡ Some (GetNow p key) → same_node plan p g.proc ≡ false → IsAsked plan g →
      IsPortableNow family words plan p key g
  pub fences : (members : List ℕ) (j : ℕ) → IsPlainFence words plan (Live plan) members j
  pub named : (y : Event) (name : ℕ) → calls_name plan name y (kind plan y) ≡ true → IsAsked plan y → family.names ≡ true
  pub names : AreNamesFine plan
  pub star : (y : Event) → kind plan y ≡ Some UnpublishAll → IsAsked plan y → family.star ≡ true
  pub reserved : (y : Event) → IsFixed plan y → IsAsked plan y → words.known y ≡ true
