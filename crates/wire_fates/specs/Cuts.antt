-- Where some calls are cut in two: for the contracts of private functions.
use Rattle.std.specs.Prelude.{◌≡◌, ◌<◌, ◌≤◌, ℕ, List, Some, slice_get}
use Rattle.wire_runs.specs.Plan.{Event}

-- of the calls it holds of the first n, and of no other
pub record IsCut (holds : Event → Type 0) (calls : List Event) (n : ℕ) : Type 0 where
  pub below : (k : ℕ) (z : Event) → k < n → slice_get calls k ≡ Some z → holds z
  pub above : (k : ℕ) (z : Event) → n ≤ k → slice_get calls k ≡ Some z → holds z → ⊥
