-- The laws of runs: what the definitions before this file entail, for every plan. Each is the contract of a function of
-- src/laws.rt.
use Rattle.std.specs.Prelude.{slice_get, ◌↔◌, Option, Some, None, ◌≡◌, ◌≢◌, ℕ, suc, ◌≤◌, ◌<◌, List, [], Bool, true}
use Rattle.std.specs.Prelude.{false, ◌==◌, if◌then◌else◌, length, take}
use Rattle.wire_runs.specs.Plan.{Plan, Event, Arrive, kind_at, event_total, event_count, node_of, same_node, update}
use Rattle.wire_runs.specs.Puts.{own, stored}
use Rattle.wire_runs.specs.Fences.{arrivals, is_collecting}
use Rattle.wire_runs.specs.Sight.{held, served, for_others, has_brought, delivered, get_now_sees}
use Rattle.wire_runs.specs.State.{Answer, State, start, next_event, IsDone}
use Rattle.wire_runs.specs.Step.{is_enabled, step, IsInterleaving, run, IsEnd, IsReachable}
use Rattle.wire_runs.specs.PlainRun.{plain_run}
use Rattle.wire_runs.specs.Ends.{row, calls_of}
use Rattle.wire_runs.specs.Fate.{Fate, Waits, Says, HasFate, IsSoundCut}
use Rattle.wire_runs.specs.Order.{IsArrival, Edge, Live, Before}
use Rattle.wire_runs.specs.Races.{ByGet, Delivers, IsUnordered, IsSettled}
use Rattle.wire_runs.specs.Findings.{Finding, Rewrite, KeyRace, NameRace, IsFound, IsFindings}

-- no run is longer than the number of events
abbrev pub RunsEnd : Type 0
RunsEnd = (plan : Plan) (w : List ℕ) → IsInterleaving plan start w → length w ≤ event_total plan

-- where a process is enabled, its next event is live, and all its sources and all that is before it are done
pub record IsDue (plan : Plan) (s : State) (y : Event) : Type 0 where
  pub is_live : Live plan y
  pub sources_done : (x : Event) → Edge plan x y → IsDone s x
  pub earlier_done : (x : Event) → Before plan x y → IsDone s x

abbrev pub EnabledIsDue : Type 0
EnabledIsDue = (plan : Plan) (s : State) (p : ℕ) → IsReachable plan s → is_enabled plan s p ≡ true → IsDue plan s (next_event s p)

-- two processes that are both enabled don't disturb each other
pub record Commute (plan : Plan) (s : State) (p q : ℕ) : Type 0 where
  pub first_stays : is_enabled plan (step plan s q) p ≡ true
  pub second_stays : is_enabled plan (step plan s p) q ≡ true
  pub same_end : step plan (step plan s p) q ≡ step plan (step plan s q) p

-- in a settled plan, whatever state a run has come to
abbrev pub EnabledCommute : Type 0
EnabledCommute = (plan : Plan) (s : State) (p q : ℕ) → IsSettled plan → IsReachable plan s → p ≢ q → is_enabled plan s p ≡ true → is_enabled plan s q ≡ true →
    Commute plan s p q

-- every two runs of a settled plan that can't go on end in the same state: names, replies and who waits
abbrev pub OneEnd : Type 0
OneEnd = (plan : Plan) (v w : List ℕ) → IsSettled plan → IsInterleaving plan start v → IsInterleaving plan start w → IsEnd plan (run plan v) →
    IsEnd plan (run plan w) → run plan v ≡ run plan w

-- in a state that a run can reach, each call of a process has an end, and nothing else has
abbrev pub RowsAreWhole : Type 0
RowsAreWhole = (plan : Plan) (s : State) (p : ℕ) → IsReachable plan s → length (row plan s p) ≡ length (calls_of plan p)

-- every interleaving of the plan that can't go on ends in one state, the plain run's: the same reply to every call, the
-- same names, and the same processes waiting
abbrev pub HasOneEnd : Plan → Type 0
HasOneEnd plan = (w : List ℕ) → IsInterleaving plan start w → IsEnd plan (run plan w) → run plan w ≡ run plan (plain_run plan)

-- the plain run is an interleaving that can't go on, at each step of it nobody below is enabled, and a settled plan has
-- one end
pub record PlainRuns (plan : Plan) : Type 0 where
  pub is_run : IsInterleaving plan start (plain_run plan)
  pub ends : IsEnd plan (run plan (plain_run plan))
  pub is_lowest : (n p q : ℕ) → slice_get (plain_run plan) n ≡ Some p → q < p → is_enabled plan (run plan (take n (plain_run plan))) q ≡ false
  pub is_the_end : IsSettled plan → HasOneEnd plan

-- replies are fates, and who is enabled is told by fates
pub record FatesHold (plan : Plan) (s : State) : Type 0 where
  pub answers : (z : Event) (a : Answer) (fate : Fate) → slice_get (s.replies z.proc) z.at ≡ Some a → HasFate plan z fate → fate ≡ Says a
  pub enabled : (p : ℕ) (fate : Fate) → HasFate plan (next_event s p) fate →
      (is_enabled plan s p ≡ true) ↔ (((x : Event) → Edge plan x (next_event s p) → IsDone s x) × (fate ≢ Waits))

abbrev pub FatesTell : Type 0
FatesTell = (plan : Plan) (s : State) → IsSettled plan → IsReachable plan s → FatesHold plan s

-- the fate of an event is one
abbrev pub OneFate : Type 0
OneFate = (plan : Plan) (y : Event) (a b : Fate) → IsSettled plan → HasFate plan y a → HasFate plan y b → a ≡ b

-- what a run of a settled plan has come to is a sound cut
abbrev pub RunsAreSound : Type 0
RunsAreSound = (plan : Plan) (s : State) → IsSettled plan → IsReachable plan s → IsSoundCut plan s.done

-- the list of findings is empty exactly where the plan is settled
abbrev pub NoFindings : Type 0
NoFindings = (plan : Plan) (lower_name : ℕ → ℕ → Bool) → IsFindings plan lower_name [] ↔ IsSettled plan

-- the two calls of a race that is found, each by its event (of a fence its arrival), are live, and no chain orders them
abbrev pub AreUnordered : Plan → Finding → Type 0
AreUnordered plan (Rewrite x y) = Unit {0}
AreUnordered plan (KeyRace x y owner key) = IsUnordered plan x y
AreUnordered plan (NameRace x y name) = IsUnordered plan x y

abbrev pub RacesAreUnordered : Type 0
RacesAreUnordered = (plan : Plan) (f : Finding) → IsFound plan f → AreUnordered plan f

-- no two names stand before each other
abbrev pub IsOneWay : (ℕ → ℕ → Bool) → Type 0
IsOneWay lower_name = (a b : ℕ) → lower_name a b ≡ true → lower_name b a ≡ true → ⊥

-- for each order of the names the list of findings is one
abbrev pub OneList : Type 0
OneList = (plan : Plan) (lower_name : ℕ → ℕ → Bool) (xs ys : List Finding) → IsOneWay lower_name → IsFindings plan lower_name xs →
    IsFindings plan lower_name ys → xs ≡ ys

-- where a plan doesn't keep what gets bring, a get-now from another node sees what fences have brought, and no get
-- delivers a key
pub record FencesBring (plan : Plan) : Type 0 where
  pub sees : (s : State) (q i p key : ℕ) → get_now_sees plan s q i p key
      ≡ (if q == p then held (own plan p key i) else if same_node plan p q then served plan p true (stored plan p key (s.done p))
      else held (for_others plan p (delivered plan s.done p (node_of plan q) key (event_count plan p))))
  pub deliveries : (p key node : ℕ) (get : Event) → ¬ (Delivers plan p key node (ByGet get))

abbrev pub WithoutKeep : Type 0
WithoutKeep = (plan : Plan) → plan.keep ≡ false → FencesBring plan

-- marks that tell which events are live, and which are before which
pub record HappensBefore (plan : Plan) : Type 0 where
  pub alive : Event → Bool
  pub before : Event → Event → Bool
  pub tells_live : (y : Event) → (alive y ≡ true) ↔ Live plan y
  pub tells_before : (x y : Event) → (before x y ≡ true) ↔ Before plan x y

-- each event of a settled plan has a fate
abbrev pub HaveFates : Type 0
HaveFates = (plan : Plan) → IsSettled plan → HappensBefore plan → (y : Event) → (fate : Fate) × HasFate plan y fate

-- a sound cut of a settled plan is what some run has come to
abbrev pub SoundIsReached : Type 0
SoundIsReached = (plan : Plan) (cut : ℕ → ℕ) → IsSettled plan → HappensBefore plan → IsSoundCut plan cut → (s : State) × IsReachable plan s
    × ((p : ℕ) → s.done p ≡ cut p)

-- p's next event where so many events of each process are done
abbrev pub next_after : (ℕ → ℕ) → ℕ → Event
next_after cut p = record { proc = p; at = cut p }

-- the cut with one event of p more
abbrev pub one_more : (ℕ → ℕ) → ℕ → ℕ → ℕ
one_more cut p = update cut p (suc (cut p))

-- a run can reach the state, and this is its cut: how many events of each process are done there
pub record IsCutOf (plan : Plan) (cut : ℕ → ℕ) (s : State) : Type 0 where
  pub reached : IsReachable plan s
  pub done : (p : ℕ) → s.done p ≡ cut p

-- where a process is enabled, a run can reach the state after its step, and the cut of that state has one event of it
-- more
abbrev pub StepsMoveCuts : Type 0
StepsMoveCuts =
    (plan : Plan) (cut : ℕ → ℕ) (s : State) (p : ℕ) → IsCutOf plan cut s → is_enabled plan s p ≡ true
    → IsCutOf plan (one_more cut p) (step plan s p)

-- by the cut p's next event can happen: all its sources are done, and its fate isn't to wait
pub record CanHappen (plan : Plan) (cut : ℕ → ℕ) (p : ℕ) (fate : Fate) : Type 0 where
  pub sources_done : (x : Event) → Edge plan x (next_after cut p) → x.at < cut x.proc
  pub has_fate : HasFate plan (next_after cut p) fate
  pub comes : fate ≢ Waits

-- one event of p more is a step of p
pub record IsStep (plan : Plan) (cut : ℕ → ℕ) (s : State) (p : ℕ) : Type 0 where
  pub enabled : is_enabled plan s p ≡ true
  pub moved : IsCutOf plan (one_more cut p) (step plan s p)

-- in a settled plan, where by the cut p's next event can happen, one event of p more is a step of p
abbrev pub CutsTellSteps : Type 0
CutsTellSteps =
    (plan : Plan) (cut : ℕ → ℕ) (s : State) (p : ℕ) (fate : Fate) → IsSettled plan → IsCutOf plan cut s → CanHappen plan cut p fate
    → IsStep plan cut s p

-- in a settled plan a cut has one state: how many events of each process are done tells the names and the replies too
abbrev pub OneState : Type 0
OneState = (plan : Plan) (cut : ℕ → ℕ) (s t : State) → IsSettled plan → IsCutOf plan cut s → IsCutOf plan cut t → s ≡ t

-- if a run of a settled plan can reach a cut, and also that with one event of p more, then p is enabled at the first,
-- and its step leads from the state of the first to that of the second
abbrev pub OneEventBetween : Type 0
OneEventBetween =
    (plan : Plan) (cut : ℕ → ℕ) (p : ℕ) (s t : State) → IsSettled plan → IsCutOf plan cut s → IsCutOf plan (one_more cut p) t
    → (is_enabled plan s p ≡ true) × (step plan s p ≡ t)

-- the state in which the plain run ends
abbrev pub plain_end : Plan → State
plain_end plan = run plan (plain_run plan)

-- what is done so far is done in the plain run, with the same replies: of each process no more events are done than
-- there, its replies are the first of those there, one for each event that is done, and the fate of such an event is
-- the reply that it gets there
pub record IsPlainSoFar (plan : Plan) (s : State) : Type 0 where
  pub done : (p : ℕ) → s.done p ≤ (plain_end plan).done p
  pub count : (p : ℕ) → length (s.replies p) ≡ s.done p
  pub replies : (p : ℕ) → s.replies p ≡ take (s.done p) ((plain_end plan).replies p)
  pub fates : (z : Event) (fate : Fate) → IsDone s z → HasFate plan z fate
      → (a : Answer) × (slice_get ((plain_end plan).replies z.proc) z.at ≡ Some a) × (fate ≡ Says a)

-- so it is in each state of a settled plan that a run can reach
abbrev pub RepliesArePlain : Type 0
RepliesArePlain = (plan : Plan) (s : State) → IsSettled plan → IsReachable plan s → IsPlainSoFar plan s

-- a fence collects exactly where each of its calls says collect
abbrev pub CollectsByAll : Type 0
CollectsByAll =
    (plan : Plan) (members : List ℕ) (j : ℕ) → (is_collecting plan members j ≡ true) ↔ ((z : Event) (call : IsArrival plan members j z) → call.collect ≡ true)

-- p's event of this number, one of its first n, is its arrival at a fence that in this cut has brought p's data to the
-- node
pub record IsBringing (plan : Plan) (cut : ℕ → ℕ) (p node n at : ℕ) : Type 0 where
  pub members : List ℕ
  pub collect : Bool
  pub is : kind_at plan p at ≡ Some (Arrive members collect)
  pub brings_it : has_brought plan cut p node members (arrivals plan p members (suc at)) ≡ true
  pub among : at < n

-- of such arrivals it is the one with the greatest number
pub record IsLastBringing (plan : Plan) (cut : ℕ → ℕ) (p node n at : ℕ) : Type 0 where
  pub one : IsBringing plan cut p node n at
  pub greatest : (other : ℕ) → IsBringing plan cut p node n other → other ≤ at

-- what fences have brought to the node: what p had stored under the key at the last such arrival, and nothing where
-- there is none
pub data IsBrought (plan : Plan) (cut : ℕ → ℕ) (p node key n : ℕ) (brought : Option ℕ) : Type 0 where
  ByLast : (at : ℕ) → IsLastBringing plan cut p node n at → brought ≡ stored plan p key at → IsBrought plan cut p node key n brought
  ByNone : ((at : ℕ) → ¬ (IsBringing plan cut p node n at)) → brought ≡ None → IsBrought plan cut p node key n brought

-- the last arrival that brings p's data tells what is delivered
abbrev pub DeliveredByLast : Type 0
DeliveredByLast = (plan : Plan) (cut : ℕ → ℕ) (p node key n : ℕ) → IsBrought plan cut p node key n (delivered plan cut p node key n)
