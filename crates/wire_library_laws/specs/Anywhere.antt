-- Plans that are portable whatever the nodes of their processes.
use Rattle.std.specs.Prelude.{◌≡◌, ◌≢◌, ℕ, suc, List, true, false, Some}
use Rattle.wire_runs.specs.Plan.{Plan, Event, Get, GetNow, Leave, UnpublishAll, kind, admits}
use Rattle.wire_runs.specs.Puts.{stored, scope_of}
use Rattle.wire_runs.specs.Fences.{arrivals, is_member}
use Rattle.wire_runs.specs.Names.{calls_name}
use Rattle.wire_runs.specs.Step.{run}
use Rattle.wire_runs.specs.Order.{Stores, IsArrival, Live, Before}
use Rattle.wire_runs.specs.Races.{IsRewrite, Delivery, ByFence, ByGet, IsOf, FenceBringsAway}
use Rattle.wire_runs.specs.PlainRun.{plain_run}
use Rattle.wire_runs.specs.Placings.{IsPlacing, HasSurely, IsSettledAnywhere}
use Rattle.wire_library_laws.specs.Library.{Family, Words, Moment, told, IsPlainFence, IsLibraryRun, IsLibraryEnd}
use Rattle.wire_library_laws.specs.Portable.{IsAsked, IsPortableNear, IsPortableFar, AreMates, ComesWithin, SeesNoRemote, AreNamesFine, IsFixed, IsPortable}

-- what can bring p's key to another node, in some library and on some nodes
pub data MayBringAway (plan : Plan) (p key : ℕ) : Delivery → Type 0 where
  fence : {members : List ℕ} {j : ℕ} → FenceBringsAway plan p key members j → ((z : Event) → IsArrival plan members j z → Live plan z) →
      MayBringAway plan p key (ByFence members j)
  get : {g : Event} (other_key : ℕ) → kind plan g ≡ Some (Get p other_key) → g.proc ≢ p → Live plan g →
      (other_key ≢ key → ComesWithin plan p key g) → MayBringAway plan p key (ByGet g)

-- each library of the family surely has p's key where g's process is, by that process's own calls before g: where fences
-- bring, it has left one that brings the key, and it is of p's job; or it has got a key that comes no earlier
pub data OwnCallsHave (family : Family) (words : Words) (plan : Plan) (p key : ℕ) (g : Event) : Type 0 where
  left : (members : List ℕ) (j : ℕ) (leave : Event) → family.brings ≡ true → FenceBringsAway plan p key members j →
      is_member members g.proc ≡ true → words.job g.proc ≡ words.job p → kind plan leave ≡ Some (Leave members) →
      arrivals plan leave.proc members leave.at ≡ j → leave.proc ≡ g.proc → Before plan leave g → OwnCallsHave family words plan p key g
  got : (get commit : Event) (other_key u : ℕ) → kind plan get ≡ Some (Get p other_key) → get.proc ≡ g.proc → Before plan get g →
      commit.proc ≡ p → Stores plan commit other_key → stored plan p key (suc commit.at) ≡ Some u →
      admits (scope_of plan p u) false ≡ true → OwnCallsHave family words plan p key g

-- a get-now sees nothing on whatever nodes, where they aren't the owner's, or surely the value
pub data IsPortableNowAnywhere (family : Family) (words : Words) (plan : Plan) (p key : ℕ) (g : Event) : Type 0 where
  nothing : ((delivery : Delivery) → MayBringAway plan p key delivery → (z : Event) × IsOf plan delivery z × Before plan g z) →
      IsPortableNowAnywhere family words plan p key g
  surely : HasSurely plan p key g.proc g → OwnCallsHave family words plan p key g → IsPortableNowAnywhere family words plan p key g

-- portable, wherever the processes are
pub record IsPortableAnywhere (family : Family) (words : Words) (plan : Plan) : Type 0 where
  pub no_rewrite : (x y : Event) → ¬ (IsRewrite plan x y)
  pub near : (g : Event) (p key : ℕ) → kind plan g ≡ Some (Get p key) → g.proc ≢ p → IsAsked plan g → IsPortableNear family plan p key g
  pub far : (g : Event) (p key : ℕ) → kind plan g ≡ Some (Get p key) → g.proc ≢ p → IsAsked plan g → IsPortableFar family plan p key g
  pub mates : (g h : Event) (p key other_key : ℕ) → kind plan g ≡ Some (Get p key) → kind plan h ≡ Some (Get p other_key) → g.proc ≢ p →
      h.proc ≢ p → IsAsked plan g → IsAsked plan h → g.proc ≢ h.proc → AreMates family plan p key other_key g h
  pub near_now : (g : Event) (p key : ℕ) → kind plan g ≡ Some (GetNow p key) → g.proc ≢ p → IsAsked plan g → SeesNoRemote plan p key g
  pub far_now : (g : Event) (p key : ℕ) → kind plan g ≡ Some (GetNow p key) → g.proc ≢ p → IsAsked plan g →
      IsPortableNowAnywhere family words plan p key g
  pub fences : (members : List ℕ) (j : ℕ) → IsPlainFence words plan (Live plan) members j
  pub named : (y : Event) (name : ℕ) → calls_name plan name y (kind plan y) ≡ true → IsAsked plan y → family.names ≡ true
  pub names : AreNamesFine plan
  pub star : (y : Event) → kind plan y ≡ Some UnpublishAll → IsAsked plan y → family.star ≡ true
  pub reserved : (y : Event) → IsFixed plan y → IsAsked plan y → words.known y ≡ true

-- such a plan is portable on all nodes
abbrev pub PortableThere : Type 0
PortableThere =
    (family : Family) (words : Words) (plan other : Plan) → IsPlacing plan other → IsPortableAnywhere family words plan → IsPortable family words other

-- and if nothing is found on any nodes, each run of a library that can't go on ends as the plain run on its nodes
abbrev pub LibraryAnywhere : Type 0
LibraryAnywhere =
    (family : Family) (words : Words) (plan other : Plan) (h : List Moment) → IsSettledAnywhere plan → IsPortableAnywhere family words plan
    → IsPlacing plan other → IsLibraryRun family words other h → IsLibraryEnd family words other h → told other h ≡ run other (plain_run other)
