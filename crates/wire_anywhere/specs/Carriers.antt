-- Which processes surely have a key before a get-now: for the contracts of private functions.
use Rattle.std.specs.Prelude.{◌≡◌, ◌≢◌, ◌<◌, ◌≤◌, ℕ, List, true, Option, Some, MatchOption, slice_get}
use Rattle.wire_types.specs.declared.Event.{Event as CodeEvent}
use Rattle.wire_types.specs.declared.Proc.{Proc}
use Rattle.wire_runs.specs.Plan.{Plan, Event, event_of, node_of}
use Rattle.wire_runs.specs.Fences.{is_member}
use Rattle.wire_runs.specs.Order.{Before}
use Rattle.wire_runs.specs.Races.{GetBringsAway}
use Rattle.wire_runs.specs.Placings.{HasSurely}
use Rattle.wire_plan.specs.Index.{IsDelivering}

-- p's event number `at` is its arrival at a fence that brings its key away, to m too, and it is before the get
pub record IsSureAt (plan : Plan) (p key m : ℕ) (get : Event) (at : ℕ) : Type 0 where
  pub delivers : IsDelivering plan p key (node_of plan p) at
  pub member : is_member delivers.members m ≡ true
  pub before : Before plan (record { proc = p; at = at }) get

abbrev pub IsSureByFence : Plan → ℕ → ℕ → ℕ → Event → Type 0
IsSureByFence plan p key m get = (at : ℕ) × IsSureAt plan p key m get at

-- a get of m's that brings p's key away is before the get
abbrev pub IsSureByGet : Plan → ℕ → ℕ → ℕ → Event → Type 0
IsSureByGet plan p key m get = (z : Event) × GetBringsAway plan p key z × (z.proc ≡ m) × Before plan z get

-- m is another process than p, and doesn't surely have p's key before the get
abbrev pub LacksSurely : Plan → ℕ → ℕ → Event → ℕ → Type 0
LacksSurely plan p key get m = (m ≢ p) × ¬ (HasSurely plan p key m get)

-- x is m's first event among these
pub record IsEarliest (places : List Event) (m : ℕ) (x : Event) : Type 0 where
  pub k : ℕ
  pub is : slice_get places k ≡ Some x
  pub proc : x.proc ≡ m
  pub first : (l : ℕ) (z : Event) → slice_get places l ≡ Some z → z.proc ≡ m → x.at ≤ z.at

-- what is found, if anything, is m's first event among these
abbrev pub IsFirstOf : List Event → ℕ → Option CodeEvent → Type 0
IsFirstOf places m found =
    MatchOption found ((k : ℕ) (z : Event) → slice_get places k ≡ Some z → z.proc ≢ m) (λ e. IsEarliest places m (event_of e))

-- the first n of these events are of processes that don't lack the key
abbrev pub NoneLacks : Plan → ℕ → ℕ → Event → List Event → ℕ → Type 0
NoneLacks plan p key get places n = (k : ℕ) (z : Event) → k < n → slice_get places k ≡ Some z → ¬ (LacksSurely plan p key get z.proc)

-- m is the process of the first of these events whose process lacks the key
pub record IsFirstLacking (plan : Plan) (p key : ℕ) (get : Event) (places : List Event) (m : ℕ) : Type 0 where
  pub k : ℕ
  pub z : Event
  pub is : slice_get places k ≡ Some z
  pub proc : z.proc ≡ m
  pub lacks : LacksSurely plan p key get m
  pub others : NoneLacks plan p key get places k

-- what is found, if anything, is that process
abbrev pub IsLeastLacking : Plan → ℕ → ℕ → Event → List Event → Option Proc → Type 0
IsLeastLacking plan p key get places found =
    MatchOption found ((k : ℕ) (z : Event) → slice_get places k ≡ Some z → ¬ (LacksSurely plan p key get z.proc)) (λ q. IsFirstLacking plan p key get places q.number)
