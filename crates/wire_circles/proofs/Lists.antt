-- Numbers in lists.
use Rattle.std.proofs.Common.{◌≡◌, ◌≢◌, ◌∙◌, ◌<◌, ◌+◌, ℕ, List, [], ◌∷◌, ◌++◌, length, slice_index, sym, ap, arith, inl, inr, refl, length-append, take, drop, ◌-◌, ◌≤◌, length-drop, take_all}
use Rattle.std.proofs.lemmas.Bool.{cases_eq}
use Rattle.std.proofs.lemmas.Grind.{common_steps}
use Rattle.std.specs.List.{Contains}

pub contains_at : (xs : List ℕ) (k x : ℕ) → k < length xs → slice_index xs k ≡ x → Contains xs x
contains_at xs k x low is = (k, low, grind (arith, common_steps, low, is))

pub place_in : (xs : List ℕ) (x : ℕ) → Contains xs x → (k : ℕ) × (k < length xs) × (slice_index xs k ≡ x)
place_in xs x (k, low, is) = (k, low, grind (arith, common_steps, low, is))

pub index_before : (xs : List ℕ) (x k : ℕ) → k < length xs → slice_index (xs ++ x ∷ []) k ≡ slice_index xs k
index_before xs x k low = grind (arith, common_steps, low)

pub index_last : (xs : List ℕ) (x k : ℕ) → k ≡ length xs → slice_index (xs ++ x ∷ []) k ≡ x
index_last xs x k is = grind (arith, common_steps, is)

pub longer : (xs : List ℕ) (x : ℕ) → length (xs ++ x ∷ []) ≡ length xs + 1
longer xs x = length-append xs (x ∷ [])

pub rest_of : (xs : List ℕ) (k : ℕ) (new out : List ℕ) → new ≡ [] → out ≡ new ++ take (length xs - k) (drop k xs) → out ≡ drop k xs
rest_of xs k new out none is = is ∙ ap (λ ys. ys ++ take (length xs - k) (drop k xs)) none ∙ take_all (length xs - k) (drop k xs) (omega (arith, length-drop k xs))
