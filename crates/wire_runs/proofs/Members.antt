-- Events that are in a list of events.
use Rattle.std.proofs.Common.{◌≡◌, ◌⊎◌, inl, inr, ⊎_elim, ℕ, zero, suc, List, [], ◌∷◌, ◌++◌, Some, slice_get, sym, ap}
use Rattle.std.proofs.lemmas.Option.{same_Some}
use Rattle.wire_runs.specs.Plan.{Event}
use Rattle.wire_runs.specs.Fate.{IsIn}
use Rattle.wire_runs.proofs.Lists.{not_in_empty}

pub in_index : (xs : List Event) (z : Event) → IsIn z xs → (k : ℕ) × (slice_get xs k ≡ Some z)
in_index [] z i = absurd i
in_index (x ∷ xs) z (inl e) = (0, ap (λ v. Some v) (sym e))
in_index (x ∷ xs) z (inr i) = let w = in_index xs z i in (suc w.0, w.1)

pub index_in : (xs : List Event) (z : Event) (k : ℕ) → slice_get xs k ≡ Some z → IsIn z xs
index_in [] z k e = absurd (not_in_empty k z e)
index_in (x ∷ xs) z zero e = inl (sym (same_Some _ _ e))
index_in (x ∷ xs) z (suc k) e = inr (index_in xs z k e)

pub in_left : (xs ys : List Event) (z : Event) → IsIn z xs → IsIn z (xs ++ ys)
in_left [] ys z i = absurd i
in_left (x ∷ xs) ys z (inl e) = inl e
in_left (x ∷ xs) ys z (inr i) = inr (in_left xs ys z i)

pub in_right : (xs ys : List Event) (z : Event) → IsIn z ys → IsIn z (xs ++ ys)
in_right [] ys z i = i
in_right (x ∷ xs) ys z i = inr (in_right xs ys z i)

pub in_parts : (xs ys : List Event) (z : Event) → IsIn z (xs ++ ys) → IsIn z xs ⊎ IsIn z ys
in_parts [] ys z i = inr i
in_parts (x ∷ xs) ys z (inl e) = inl (inl e)
in_parts (x ∷ xs) ys z (inr i) = ⊎_elim (λ a. inl (inr a)) (λ b. inr b) (in_parts xs ys z i)
