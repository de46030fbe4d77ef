-- Libraries of PMIx, by what their calls may reply. Nothing is said of caches, requests or messages: only what an
-- answer may be by what has happened since the call was made. So a library isn't one system here, but any that keeps
-- these axioms. Each is a sentence of the standard, whose heading stands behind it in brackets, or what the libraries
-- do that were measured: then it says `measured`. tests/portable/test_library_axioms.py holds them to what was recorded
-- of each library. They are meant for plans that put each key once: no more is known of libraries.
use Rattle.std.specs.Prelude.{◌≡◌, ◌≢◌, ◌⊎◌, ℕ, suc, ◌≤◌, List, [], ◌∷◌, ◌++◌, Bool, true, false, Option, Some, None, is_some, slice_get}
use Rattle.wire_runs.specs.Plan.{Plan, Event, Kind, Put, Commit, Arrive, Leave, Get, GetNow, Publish, Lookup, LookupWait, Unpublish, UnpublishAll, Fixed}
use Rattle.wire_runs.specs.Plan.{kind, node_of, same_node, admits, update}
use Rattle.wire_runs.specs.State.{Answer, Silent, Success, NotFound, Value, Reserved, State, start, next_event, next_kind, IsDone}
use Rattle.wire_runs.specs.Puts.{own, stored, scope_of}
use Rattle.wire_runs.specs.Fences.{arrivals, is_member, is_complete, has_node}
use Rattle.wire_runs.specs.Sight.{Outside, held, served}
use Rattle.wire_runs.specs.Step.{sight_reply, lookup_reply, is_publisher, name_after}
use Rattle.wire_runs.specs.Order.{Stores, IsArrival}
use Rattle.wire_runs.specs.Races.{FenceDelivers}

-- in what families of libraries differ. flaky: a get that waits for a process of its node may miss the very commit that
-- brings its key (OpenPMIx 4.2.2). at_once: a server answers another node's request once its process has committed
-- anything (4.2, Slurm), and not once it has committed the key that is asked for (5.0, 7.0). brings: a fence that
-- collects surely brings (not 5.0). names: there are publish and lookup (not under Slurm). star: a call that takes away
-- all names of its process does so, as the standard says (PMIx_Unpublish). Measured: 4.2 replies PMIX_ERR_BAD_PARAM and
-- 5.0 PMIX_SUCCESS, and neither takes one away; 7.0 does. Where flaky and at_once hold and the others don't, each
-- library that was measured is of the family
pub record Family : Type 0 where
  pub flaky : Bool
  pub at_once : Bool
  pub brings : Bool
  pub names : Bool
  pub star : Bool

-- what the script says and the plan doesn't. sign: how a call of a fence spells its set, as a number; None where that has
-- repeats, or the family wouldn't take it. known: the calls of reserved keys which each library of the family answers as
-- the plan says. job: the job of a process
pub record Words : Type 0 where
  pub sign : Event → Option ℕ
  pub known : Event → Bool
  pub job : ℕ → ℕ

-- what happens: a process makes its next call, or it is answered. Of a fence the arrival is answered with silence, and
-- the call waits for the answer of its other half
pub data Moment : Type 0 where
  Asks : (proc : ℕ) → Moment
  Says : (proc : ℕ) → Answer → Moment

-- the state with p's next event answered so
abbrev pub answered : Plan → State → ℕ → Answer → State
answered plan s p a = record {
  done = update s.done p (suc (s.done p));
  names = λ n. name_after (s.names n) (next_event s p) (next_kind plan s p) n;
  replies = update s.replies p (s.replies p ++ a ∷ []);
}

-- what has been answered in a history, the newest moment first
abbrev pub told : Plan → List Moment → State
told plan [] = start
told plan (Asks p ∷ past) = told plan past
told plan (Says p a ∷ past) = answered plan (told plan past) p a

-- the processes whose events have been answered, in that order
abbrev pub completed : List Moment → List ℕ
completed [] = []
completed (Asks p ∷ past) = completed past
completed (Says p a ∷ past) = completed past ++ p ∷ []

-- new is old, or goes on from there
pub data Since (old : List Moment) : List Moment → Type 0 where
  still : Since old old
  later : {m : Moment} {new : List Moment} → Since old new → Since old (m ∷ new)

-- p made its next call right after `before`, and has no answer to it in `new`
pub record IsOpen (plan : Plan) (before new : List Moment) (p : ℕ) : Type 0 where
  pub asked : Since (Asks p ∷ before) new
  pub unanswered : (told plan new).done p ≡ (told plan before).done p

-- a commit of the process that has been made
pub record IsMade (plan : Plan) (h : List Moment) (p : ℕ) (commit : Event) : Type 0 where
  pub is : kind plan commit ≡ Some Commit
  pub its : commit.proc ≡ p
  pub is_done : IsDone (told plan h) commit

-- a get that waits for a process of its node fails only at a commit of that process, made since the get was asked,
-- after which the key isn't there; flaky: or at any such commit, if the key wasn't there when it was asked. By the
-- standard a get waits for the key (Retrieval Rules for Non-Reserved Keys). Measured: when a process commits, the
-- server answers all gets of its node that wait for it, with what is there then
pub record FailsNear (family : Family) (plan : Plan) (before past : List Moment) (owner key : ℕ) : Type 0 where
  pub commit : Event
  pub made : IsMade plan past owner commit
  pub since : ¬ (IsDone (told plan before) commit)
  pub missing : (stored plan owner key (suc commit.at) ≡ None)
      ⊎ ((family.flaky ≡ true) × (stored plan owner key ((told plan before).done owner) ≡ None))

-- a get that waits for a process of another node fails only by what the owner's server sent at some moment, which lacks
-- the key though the owner had committed something; not at_once: the key of the request. The moment lies after this get
-- was asked, or after another get of the node was asked that waited for the same owner when this one was asked.
-- Measured: a node asks the owner's server, and gets that come till it has the answer share that request
pub record FailsFar (family : Family) (plan : Plan) (before past : List Moment) (p owner key : ℕ) : Type 0 where
  pub other : ℕ
  pub other_before : List Moment
  pub other_key : ℕ
  pub open_then : IsOpen plan other_before (Asks p ∷ before) other
  pub other_is : next_kind plan (told plan other_before) other ≡ Some (Get owner other_key)
  pub there : node_of plan other ≡ node_of plan p
  pub moment : List Moment
  pub from : Since (Asks other ∷ other_before) moment
  pub until : Since moment past
  pub commit : Event
  pub made : IsMade plan moment owner commit
  pub its_key : family.at_once ≡ false → is_some (stored plan owner other_key ((told plan moment).done owner)) ≡ true
  pub missing : stored plan owner key ((told plan moment).done owner) ≡ None

-- the answer to a get of p: its own put, if there is one (measured); of another's key only a value that the owner has
-- committed by now (a commit hands it to the server: PMIx_Commit), or a failure, whatever error that is: as above, or
-- where what is committed isn't for the reader's node (Scope of Put Data)
pub data GetSays (family : Family) (plan : Plan) (before past : List Moment) (p owner key : ℕ) (a : Answer) : Type 0 where
  own_put : (u : ℕ) → p ≡ owner → own plan owner key ((told plan past).done p) ≡ Some u → a ≡ Value (record { proc = owner; at = u }) →
      GetSays family plan before past p owner key a
  value : (n u : ℕ) → p ≢ owner → n ≤ (told plan past).done owner → stored plan owner key n ≡ Some u → a ≡ Value (record { proc = owner; at = u }) →
      GetSays family plan before past p owner key a
  outside : (u : ℕ) → p ≢ owner → stored plan owner key ((told plan past).done owner) ≡ Some u →
      admits (scope_of plan owner u) (same_node plan owner p) ≡ false → GetSays family plan before past p owner key a
  fails_near : p ≢ owner → same_node plan owner p ≡ true → FailsNear family plan before past owner key → GetSays family plan before past p owner key a
  fails_far : same_node plan owner p ≡ false → FailsFar family plan before past p owner key → GetSays family plan before past p owner key a

-- by what the value of another node's process can have come to a node: a fence that has ended, one of whose calls
-- collects and which has a member there (PMIx_Fence), or a get there, of whatever key of this owner, that was under way
-- once this key was committed (not at_once: and its own key). Measured: the answer to a request has all keys of the
-- owner
pub data HasCome (family : Family) (plan : Plan) (past : List Moment) (node owner key u : ℕ) : Type 0 where
  by_fence : (members : List ℕ) (j : ℕ) (call : Event) (of_it : IsArrival plan members j call) → of_it.collect ≡ true →
      is_complete plan (told plan past).done members j ≡ true → has_node plan members node ≡ true → (at : ℕ) →
      IsArrival plan members j (record { proc = owner; at = at }) → stored plan owner key at ≡ Some u → admits (scope_of plan owner u) false ≡ true →
      HasCome family plan past node owner key u
  by_get : (reader other_key : ℕ) (before moment : List Moment) → IsOpen plan before moment reader → node_of plan reader ≡ node →
      next_kind plan (told plan before) reader ≡ Some (Get owner other_key) → Since moment past →
      (family.at_once ≡ false → is_some (stored plan owner other_key ((told plan moment).done owner)) ≡ true) → (n : ℕ) →
      n ≤ (told plan moment).done owner → stored plan owner key n ≡ Some u → admits (scope_of plan owner u) false ≡ true →
      HasCome family plan past node owner key u

-- a member of a fence on this node, of the owner's job
pub record IsJobMember (words : Words) (plan : Plan) (members : List ℕ) (node owner other : ℕ) : Type 0 where
  pub member : is_member members other ≡ true
  pub there : node_of plan other ≡ node
  pub job : words.job other ≡ words.job owner

-- by what it has surely come: where fences bring, a process of the node has left a fence that brings the key, all of
-- whose calls collect, and some member there is of the owner's job; or a get there of a key that was committed no
-- earlier has got its value. Measured: a node keeps what was brought to it; by a fence a node without a job gets no
-- keys of it (4.2, 7.0)
pub data SurelyCame (family : Family) (words : Words) (plan : Plan) (past : List Moment) (node owner key : ℕ) : Type 0 where
  left : (members : List ℕ) (j other : ℕ) (leave : Event) → family.brings ≡ true → FenceDelivers plan owner key node members j →
      IsJobMember words plan members node owner other → kind plan leave ≡ Some (Leave members) → arrivals plan leave.proc members leave.at ≡ j →
      node_of plan leave.proc ≡ node → IsDone (told plan past) leave → SurelyCame family words plan past node owner key
  got : (get put commit : Event) (other_key u : ℕ) → kind plan get ≡ Some (Get owner other_key) → node_of plan get.proc ≡ node →
      slice_get ((told plan past).replies get.proc) get.at ≡ Some (Value put) → commit.proc ≡ owner → Stores plan commit other_key →
      stored plan owner key (suc commit.at) ≡ Some u → admits (scope_of plan owner u) false ≡ true → SurelyCame family words plan past node owner key

-- the answer to a get-now: of one's own key the last put; on the owner's node what is committed there, unless it is for
-- other nodes alone; elsewhere a value only if it can have come, and PMIX_ERR_NOT_FOUND only if it hasn't surely come.
-- The standard leaves open what the server has to hold (PMIX_IMMEDIATE). Measured
pub data NowSays (family : Family) (words : Words) (plan : Plan) (past : List Moment) (p owner key : ℕ) (a : Answer) : Type 0 where
  own_put : p ≡ owner → a ≡ sight_reply owner (held (own plan owner key ((told plan past).done p))) → NowSays family words plan past p owner key a
  near : p ≢ owner → same_node plan owner p ≡ true →
      (served plan owner true (stored plan owner key ((told plan past).done owner)) ≢ Outside →
      a ≡ sight_reply owner (served plan owner true (stored plan owner key ((told plan past).done owner)))) → NowSays family words plan past p owner key a
  value : (u : ℕ) → same_node plan owner p ≡ false → HasCome family plan past (node_of plan p) owner key u → a ≡ Value (record { proc = owner; at = u }) →
      NowSays family words plan past p owner key a
  none : same_node plan owner p ≡ false → ¬ (SurelyCame family words plan past (node_of plan p) owner key) → a ≡ NotFound →
      NowSays family words plan past p owner key a

-- of the calls that count: those of fences over these members spell the set alike, and those of the j-th agree in
-- collecting
pub record IsPlainFence (words : Words) (plan : Plan) (counts : Event → Type 0) (members : List ℕ) (j : ℕ) : Type 0 where
  pub sign : ℕ
  pub alike : (z : Event) (collect : Bool) → counts z → kind plan z ≡ Some (Arrive members collect) → words.sign z ≡ Some sign
  pub agree : (y z : Event) (a : IsArrival plan members j y) (b : IsArrival plan members j z) → counts y → counts z → a.collect ≡ b.collect

-- p's next call, of this kind, finds the name as its caller wants it: a publish of the name doesn't find it there, and an
-- unpublish finds that p has published it
abbrev pub IsFine : Family → ℕ → State → ℕ → Option Kind → Type 0
IsFine family name s p (Some (Publish n)) = n ≡ name → s.names name ≡ None
IsFine family name s p (Some (Unpublish n)) = n ≡ name → is_publisher p (s.names name) ≡ true
IsFine family name s p (Some UnpublishAll) = family.star ≡ true
IsFine family name s p _ = Unit {0}

-- so did all calls so far
abbrev pub IsClean : Family → Plan → ℕ → List Moment → Type 0
IsClean family plan name [] = Unit {0}
IsClean family plan name (Asks p ∷ past) = IsClean family plan name past
IsClean family plan name (Says p a ∷ past) = IsFine family name (told plan past) p (next_kind plan (told plan past) p) × IsClean family plan name past

-- the library has kept the name so far as the rules do
abbrev pub KeepsName : Family → Plan → ℕ → List Moment → Type 0
KeepsName family plan name past = (family.names ≡ true) × IsClean family plan name past

-- p's fence over these members is plain, by the calls that have been made
abbrev pub IsPlainFenceSoFar : Words → Plan → List Moment → ℕ → List ℕ → Type 0
IsPlainFenceSoFar words plan past p members =
    IsPlainFence words plan (IsDone (told plan past)) members (arrivals plan p members ((told plan past).done p))

-- what may be answered to p's next event, of this kind, which it made right after `before`. Puts and commits succeed
-- (PMIx_Put, PMIx_Commit). A plain fence lets a member go once all have arrived, with success (PMIx_Fence). A name is
-- there from its publish (PMIx_Publish) till its publisher takes it away (PMIx_Unpublish), as long as no publish found
-- it there and no unpublish missed it; a lookup that waits is answered once it is there (PMIx_Lookup). Of other fences
-- and names nothing is said, and of reserved keys nothing but those that are known (Reserved Keys)
abbrev pub MaySay : Family → Words → Plan → List Moment → List Moment → ℕ → Answer → Kind → Type 0
MaySay family words plan before past p a (Put key scope) = a ≡ Success
MaySay family words plan before past p a Commit = a ≡ Success
MaySay family words plan before past p a (Arrive members collect) = a ≡ Silent
MaySay family words plan before past p a (Leave members) =
    IsPlainFenceSoFar words plan past p members
    → (is_complete plan (told plan past).done members (arrivals plan p members ((told plan past).done p)) ≡ true) × (a ≡ Success)
MaySay family words plan before past p a (Get owner key) = GetSays family plan before past p owner key a
MaySay family words plan before past p a (GetNow owner key) = NowSays family words plan past p owner key a
MaySay family words plan before past p a (Publish name) =
    KeepsName family plan name past → IsFine family name (told plan past) p (Some (Publish name)) → a ≡ Success
MaySay family words plan before past p a (Lookup name) = KeepsName family plan name past → a ≡ lookup_reply ((told plan past).names name)
MaySay family words plan before past p a (LookupWait name) =
    KeepsName family plan name past → (is_some ((told plan past).names name) ≡ true) × (a ≡ lookup_reply ((told plan past).names name))
MaySay family words plan before past p a (Unpublish name) =
    KeepsName family plan name past → IsFine family name (told plan past) p (Some (Unpublish name)) → a ≡ Success
MaySay family words plan before past p a UnpublishAll = family.star ≡ true → a ≡ Success
MaySay family words plan before past p a (Fixed r) = words.known (next_event (told plan past) p) ≡ true → a ≡ Reserved r

-- a moment that can come after this past. A call can be made at any time; an answer comes to a call that is open
pub data CanCome (family : Family) (words : Words) (plan : Plan) (past : List Moment) : Moment → Type 0 where
  asks : {p : ℕ} → CanCome family words plan past (Asks p)
  says : {p : ℕ} {a : Answer} (before : List Moment) (k : Kind) → next_kind plan (told plan past) p ≡ Some k → IsOpen plan before past p →
      MaySay family words plan before past p a k → CanCome family words plan past (Says p a)

-- a run of a library of the family: each moment can come after those before it
abbrev pub IsLibraryRun : Family → Words → Plan → List Moment → Type 0
IsLibraryRun family words plan [] = Unit {0}
IsLibraryRun family words plan (m ∷ past) = CanCome family words plan past m × IsLibraryRun family words plan past

-- a get that the library owes an answer: one's own key, once it is put; a key of the node, once it is committed for it;
-- a key of another node, once it is committed for others, and so are the keys of all gets of the node that wait for the
-- same owner. (By the standard its own key is enough. Measured: 5.0 and 7.0 answer a shared request once the key comes
-- that was asked for first)
pub data OwesGet (plan : Plan) (h : List Moment) (p owner key : ℕ) : Type 0 where
  own_put : p ≡ owner → is_some (own plan owner key ((told plan h).done p)) ≡ true → OwesGet plan h p owner key
  near : (u : ℕ) → p ≢ owner → same_node plan owner p ≡ true → stored plan owner key ((told plan h).done owner) ≡ Some u →
      admits (scope_of plan owner u) true ≡ true → OwesGet plan h p owner key
  far : (u : ℕ) → same_node plan owner p ≡ false → stored plan owner key ((told plan h).done owner) ≡ Some u →
      admits (scope_of plan owner u) false ≡ true →
      ((other other_key : ℕ) (before : List Moment) → IsOpen plan before h other → node_of plan other ≡ node_of plan p →
      next_kind plan (told plan before) other ≡ Some (Get owner other_key) → (v : ℕ) × (stored plan owner other_key ((told plan h).done owner) ≡ Some v)
      × (admits (scope_of plan owner v) false ≡ true)) → OwesGet plan h p owner key

-- to which open calls the library owes an answer: to all that don't wait; to those that wait, once what they wait for is
-- there; of calls of reserved keys and names to those that are known. (Measured: some others wait for ever)
abbrev pub Owes : Family → Words → Plan → List Moment → ℕ → Kind → Type 0
Owes family words plan h p (Get owner key) = OwesGet plan h p owner key
Owes family words plan h p (Leave members) =
    IsPlainFenceSoFar words plan h p members × (is_complete plan (told plan h).done members (arrivals plan p members ((told plan h).done p)) ≡ true)
Owes family words plan h p (LookupWait name) = KeepsName family plan name h × (is_some ((told plan h).names name) ≡ true)
Owes family words plan h p (Fixed r) = words.known (next_event (told plan h) p) ≡ true
Owes family words plan h p _ = Unit {0}

-- the run has come to its end: each process that has a call left has made it, and is owed no answer
abbrev pub IsLibraryEnd : Family → Words → Plan → List Moment → Type 0
IsLibraryEnd family words plan h =
    (p : ℕ) (k : Kind) → next_kind plan (told plan h) p ≡ Some k → ((before : List Moment) × IsOpen plan before h p) × ¬ (Owes family words plan h p k)
