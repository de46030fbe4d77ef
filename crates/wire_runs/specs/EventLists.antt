-- Lists of events in process order.
use Rattle.std.specs.Prelude.{◌≡◌, ℕ, ◌<◌, List, Some, slice_get, ◌⊎◌}
use Rattle.wire_runs.specs.Plan.{Event}

-- x is lower than y: its process is lower, or it is earlier in the same process
abbrev pub IsLower : Event → Event → Type 0
IsLower x y = (x.proc < y.proc) ⊎ ((x.proc ≡ y.proc) × (x.at < y.at))

-- the list has the events of which it holds, each once, the lower first
pub record AreAll (holds : Event → Type 0) (places : List Event) : Type 0 where
  pub only : (k : ℕ) (z : Event) → slice_get places k ≡ Some z → holds z
  pub all : (z : Event) → holds z → (k : ℕ) × (slice_get places k ≡ Some z)
  pub rising : (k l : ℕ) (y z : Event) → k < l → slice_get places k ≡ Some y → slice_get places l ≡ Some z → IsLower y z
