-- Where processes are stuck: for the contracts of private functions.
use Rattle.std.specs.Prelude.{◌≡◌, ◌<◌, ◌≤◌, ◌⊎◌, ℕ, List, Option, Some, MatchOption, slice_get}
use Rattle.wire_types.specs.declared.place.Event.{Event as CodeEvent}
use Rattle.wire_runs.specs.Plan.{Plan, Event, event_of}
use Rattle.wire_runs.specs.Order.{Live, Before}
use Rattle.wire_runs.specs.Fate.{Waits, HasFate}

-- the event is live, and its fate is to wait
pub record IsStuck (plan : Plan) (x : Event) : Type 0 where
  pub alive : Live plan x
  pub waits : HasFate plan x Waits

-- what is found, if anything, is p's first such event
abbrev pub IsFirstStuck : Plan → ℕ → Option CodeEvent → Type 0
IsFirstStuck plan p found =
    MatchOption found ((at : ℕ) → ¬ (IsStuck plan (record { proc = p; at = at })))
    (λ e. (e.proc.number ≡ p) × IsStuck plan (event_of e) × ((at : ℕ) → at < e.at → ¬ (IsStuck plan (record { proc = p; at = at }))))

-- the first such event of each of the first n processes
pub record AreStuckTo (plan : Plan) (n : ℕ) (stuck : List Event) : Type 0 where
  pub only : (k : ℕ) (x : Event) → slice_get stuck k ≡ Some x → IsStuck plan x
  pub all : (x : Event) → x.proc < n → IsStuck plan x → (k : ℕ) × (y : Event) × (slice_get stuck k ≡ Some y) × (y.proc ≡ x.proc) × (y.at ≤ x.at)

-- the first such event of each process
pub record AreStuck (plan : Plan) (stuck : List Event) : Type 0 where
  pub only : (k : ℕ) (x : Event) → slice_get stuck k ≡ Some x → IsStuck plan x
  pub all : (x : Event) → IsStuck plan x → (k : ℕ) × (y : Event) × (slice_get stuck k ≡ Some y) × (y.proc ≡ x.proc) × (y.at ≤ x.at)

-- x is one of these events, or after one of them
abbrev pub IsAfterStuck : Plan → List Event → Event → Type 0
IsAfterStuck plan stuck x = (k : ℕ) × (y : Event) × (slice_get stuck k ≡ Some y) × ((y ≡ x) ⊎ Before plan y x)
