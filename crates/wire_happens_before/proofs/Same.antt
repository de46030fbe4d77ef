-- The places of which something holds, each once and the lower first, are one list.
use Rattle.std.proofs.Common.{◌≡◌, ◌⊎◌, inl, inr, ℕ, zero, suc, List, [], ◌∷◌, Some, refl, sym, ap, ◌∙◌, subst, arith}
use Rattle.std.specs.Prelude.{slice_get}
use Rattle.std.proofs.lemmas.Option.{slice_get_within, same_Some}
use Rattle.wire_runs.specs.Plan.{Event}
use Rattle.wire_runs.specs.EventLists.{AreAll}
use Rattle.wire_runs.proofs.EventLists.{lower_not_same, lower_one_way}

pub at_head : (y z : Event) (ys : List Event) (k : ℕ) → slice_get (y ∷ ys) k ≡ Some z → (z ≡ y) ⊎ ((j : ℕ) × (k ≡ suc j) × (slice_get ys j ≡ Some z))
at_head y z ys zero e = inl (sym (same_Some _ _ e))
at_head y z ys (suc j) e = inr (j, refl, e)

-- the lower end of both lists
same_head : (holds : Event → Type 0) (x y : Event) (xs ys : List Event) → AreAll holds (x ∷ xs) → AreAll holds (y ∷ ys) → x ≡ y
same_head holds x y xs ys a b =
    let here = b.all x (a.only 0 x refl) in
    let there = a.all y (b.only 0 y refl) in
    elim (at_head y x ys here.0 here.1) [
      | inl e ↦ e
      | inr behind ↦ elim (at_head x y xs there.0 there.1) [
        | inl e ↦ sym e
        | inr after ↦ absurd (lower_one_way x y (a.rising 0 (suc after.0) x y (omega arith) refl after.2) (b.rising 0 (suc behind.0) y x (omega arith) refl behind.2))
      ]
    ]

rest_all : (holds : Event → Type 0) (x : Event) (xs : List Event) → AreAll holds (x ∷ xs) → AreAll (λ z. holds z × (z ≡ x → ⊥)) xs
rest_all holds x xs a = record {
  only = λ k z e. (a.only (suc k) z e, λ same. lower_not_same x z (a.rising 0 (suc k) x z (omega arith) refl e) same);
  all = λ z h. let w = a.all z h.0 in elim (at_head x z xs w.0 w.1) [ inl e ↦ absurd (h.1 e) | inr r ↦ (r.0, r.2) ];
  rising = λ k l y z lt e f. a.rising (suc k) (suc l) y z (omega (arith, lt)) e f;
}

pub same_places : (holds : Event → Type 0) (xs ys : List Event) → AreAll holds xs → AreAll holds ys → xs ≡ ys
same_places holds [] [] a b = refl
same_places holds [] (y ∷ ys) a b = absurd (let w = a.all y (b.only 0 y refl) in let lt = slice_get_within {A = Event} [] w.0 y w.1 in omega (arith, lt))
same_places holds (x ∷ xs) [] a b = absurd (let w = b.all x (a.only 0 x refl) in let lt = slice_get_within {A = Event} [] w.0 x w.1 in omega (arith, lt))
same_places holds (x ∷ xs) (y ∷ ys) a b =
    let heads = same_head holds x y xs ys a b in
    let tails = same_places (λ z. holds z × (z ≡ x → ⊥)) xs ys (rest_all holds x xs a) (subst (λ h. AreAll (λ z. holds z × (z ≡ h → ⊥)) ys) (sym heads) (rest_all holds y ys b)) in
    ap (λ h. h ∷ xs) heads ∙ ap (λ t. y ∷ t) tails
