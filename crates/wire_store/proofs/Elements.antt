-- Elements of lists by their numbers.
use Rattle.std.proofs.Common.{◌≡◌, ◌∙◌, ℕ, zero, suc, ◌<◌, List, [], ◌∷◌, length, None, slice_get, refl, sym, ap, arith}
use Rattle.std.proofs.lemmas.Option.{none-some, same_Some}

pub slice_get_same : {A : Type 0} (xs ys : List A) → ((i : ℕ) → slice_get xs i ≡ slice_get ys i) → xs ≡ ys
slice_get_same [] [] same = refl
slice_get_same [] (y ∷ ys) same = absurd (none-some y (same 0))
slice_get_same (x ∷ xs) [] same = absurd (none-some x (sym (same 0)))
slice_get_same {A = A} (x ∷ xs) (y ∷ ys) same =
    let head : x ≡ y = same_Some x y (same 0) in
    let tail : xs ≡ ys = slice_get_same xs ys (λ i. same (suc i)) in
    ap (λ (z : A). z ∷ xs) head ∙ ap (λ zs. y ∷ zs) tail

pub missing_within : {A : Type 0} (xs : List A) (n : ℕ) → slice_get xs n ≡ None → n < length xs → ⊥
missing_within [] n h low = omega (arith, low)
missing_within (x ∷ xs) zero h low = none-some x (sym h)
missing_within (x ∷ xs) (suc n) h low = missing_within xs n h (omega (arith, low))
