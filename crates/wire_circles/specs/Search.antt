-- How far a search for a circle is: for the contracts of private functions.
use Rattle.std.specs.Prelude.{◌≡◌, ◌≢◌, ◌<◌, ◌≤◌, ◌-◌, ◌+◌, ℕ, suc, List, length, slice_index}
use Rattle.std.specs.List.{Contains, sum}

-- each chain of waits that begins at p ends
pub data ChainsEnd (Waits : ℕ → ℕ → Type 0) : ℕ → Type 0 where
  ends : {p : ℕ} → ((q : ℕ) → Waits p q → ChainsEnd Waits q) → ChainsEnd Waits p

-- each of the path waits for the next, and each is on it once
pub record IsChain (lists : ℕ → List ℕ) (path : List ℕ) : Type 0 where
  pub next : (k : ℕ) → suc k < length path → Contains (lists (slice_index path k)) (slice_index path (suc k))
  pub once : (i j : ℕ) → i < j → j < length path → slice_index path i ≢ slice_index path j

-- a search over these lists. What is left of p is 2 more than its list is long before p is met, then 1 more than are to
-- be looked at, from the end on, and 0 when p is done with. The path is a chain of those that were met and aren't done
pub record IsSearch (lists : ℕ → List ℕ) (left : ℕ → ℕ) (path : List ℕ) : Type 0 where
  pub most : (p : ℕ) → left p ≤ length (lists p) + 2
  pub looked : (p i : ℕ) → left p ≤ suc i → i < length (lists p) → left (slice_index (lists p) i) ≡ 0
  pub ended : (p : ℕ) → left p ≡ 0 → ChainsEnd (λ x y. Contains (lists x) y) p
  pub met : (p : ℕ) → 0 < left p → left p ≤ length (lists p) + 1 → Contains path p
  pub unfinished : (k : ℕ) → k < length path → (0 < left (slice_index path k)) × (left (slice_index path k) ≤ length (lists (slice_index path k)) + 1)
  pub chain : IsChain lists path

-- what is left of p becomes one less, and of others it stays
pub record Lowers (old new : ℕ → ℕ) (p : ℕ) : Type 0 where
  pub here : suc (new p) ≡ old p
  pub others : (q : ℕ) → q ≢ p → new q ≡ old q

-- the path ends with p
abbrev pub EndsPath : List ℕ → ℕ → Type 0
EndsPath path p = (0 < length path) × (slice_index path (length path - 1) ≡ p)

-- the path is empty, or its end waits for q
abbrev pub MayGoOn : (ℕ → List ℕ) → List ℕ → ℕ → Type 0
MayGoOn lists path q = 0 < length path → Contains (lists (slice_index path (length path - 1))) q

-- of nobody more is left than was
abbrev pub StaysBelow : List ℕ → List ℕ → Type 0
StaysBelow old new = (p : ℕ) → slice_index new p ≤ slice_index old p

-- and in all less is left
pub record Falls (old new : List ℕ) : Type 0 where
  pub less : sum new < sum old
  pub each : StaysBelow old new
