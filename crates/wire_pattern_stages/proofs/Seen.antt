-- What is seen of one instance more, and whether there is something in a list.
use Rattle.std.proofs.Common.{◌≡◌, ◌≢◌, ◌∙◌, ap, refl, ℕ, ◌==◌, not, List, [], ◌∷◌, length, Bool, true, inl, inr, ◌⊎◌, ◌↔◌, ne_eqb, arith}

pub seen_more : (old new : Bool) (here there : Type 0) → here ↔ there → (new ≡ true) ↔ ((old ≡ true) ⊎ here) → (new ≡ true) ↔ ((old ≡ true) ⊎ there)
seen_more old new here there same more = ((λ h. to (more.0 h)), λ x. more.1 (from x))
  where
    to : (old ≡ true) ⊎ here → (old ≡ true) ⊎ there
    to (inl h) = inl h
    to (inr x) = inr (same.0 x)

    from : (old ≡ true) ⊎ there → (old ≡ true) ⊎ here
    from (inl h) = inl h
    from (inr x) = inr (same.1 x)

pub are_some : {A : Type 0} (items : List A) (count : ℕ) (empty : Bool) → count ≡ length items → empty ≡ (count == 0) → items ≢ [] → not empty ≡ true
are_some [] count empty is empty_is some = absurd (some refl)
are_some (x ∷ xs) count empty is empty_is some = ap not (empty_is ∙ ne_eqb count 0 (λ none. omega (arith, is, none)))
