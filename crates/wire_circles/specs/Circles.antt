-- Who waits for whom, and circles in that.
use Rattle.std.specs.Prelude.{◌≡◌, ◌≢◌, ◌<◌, ◌-◌, ℕ, suc, List, [], Option, Some, None, Vec, length, slice_get, slice_index}
use Rattle.std.specs.List.{Contains}
use Rattle.std.specs.declared.alloc.Global.{Global}

abbrev pub list_in : Option (Vec ℕ Global) → List ℕ
list_in None = []
list_in (Some list) = list.items

-- those for whom each one waits, in a table by its number; past its end nobody waits
abbrev pub waited_by : List (Vec ℕ Global) → ℕ → List ℕ
waited_by waits p = list_in (slice_get waits p)

-- p waits for q
abbrev pub WaitsFor : List (Vec ℕ Global) → ℕ → ℕ → Type 0
WaitsFor waits p q = Contains (waited_by waits p) q

-- a circle of those of whom one may wait for another: each waits for the next, the last for the first, and each is in
-- it once. Where it waits for itself, one is a circle
pub record IsCircle (Waits : ℕ → ℕ → Type 0) (circle : List ℕ) : Type 0 where
  pub some : 0 < length circle
  pub each : (i : ℕ) → suc i < length circle → Waits (slice_index circle i) (slice_index circle (suc i))
  pub closed : Waits (slice_index circle (length circle - 1)) (slice_index circle 0)
  pub once : (i j : ℕ) → i < j → j < length circle → slice_index circle i ≢ slice_index circle j
