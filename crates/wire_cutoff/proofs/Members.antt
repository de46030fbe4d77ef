-- Membership of lists, by place.
use Rattle.std.proofs.Common.{◌≡◌, ap, sym, subst, refl, ℕ, zero, suc, List, [], ◌∷◌, ◌++◌, map, Some, inl, inr, ◌⊎◌, ◌<◌, arith}
use Rattle.std.specs.Prelude.{slice_get, flat_map}
use Rattle.std.proofs.lemmas.Option.{none-some, same_Some}

-- it is one of these
abbrev pub In : {A : Type 0} → A → List A → Type 0
In x [] = ⊥
In x (y ∷ ys) = (y ≡ x) ⊎ In x ys

pub in_left : {A : Type 0} (x : A) (xs ys : List A) → In x xs → In x (xs ++ ys)
in_left x [] ys h = absurd h
in_left x (z ∷ xs) ys (inl e) = inl e
in_left x (z ∷ xs) ys (inr h) = inr (in_left x xs ys h)

pub in_right : {A : Type 0} (x : A) (xs ys : List A) → In x ys → In x (xs ++ ys)
in_right x [] ys h = h
in_right x (z ∷ xs) ys h = inr (in_right x xs ys h)

pub in_parts : {A : Type 0} (x : A) (xs ys : List A) → In x (xs ++ ys) → In x xs ⊎ In x ys
in_parts x [] ys h = inr h
in_parts x (z ∷ xs) ys (inl e) = inl (inl e)
in_parts x (z ∷ xs) ys (inr h) = elim (in_parts x xs ys h) [ inl a ↦ inl (inr a) | inr b ↦ inr b ]

pub in_place : {A : Type 0} (x : A) (xs : List A) → In x xs → (i : ℕ) × (slice_get xs i ≡ Some x)
in_place x [] h = absurd h
in_place x (y ∷ xs) (inl e) = (0, ap Some e)
in_place x (y ∷ xs) (inr h) = let at = in_place x xs h in (suc at.0, at.1)

pub at_place : {A : Type 0} (x : A) (xs : List A) (i : ℕ) → slice_get xs i ≡ Some x → In x xs
at_place x [] i is = absurd (none-some x is)
at_place x (y ∷ xs) zero is = inl (same_Some y x is)
at_place x (y ∷ xs) (suc i) is = inr (at_place x xs i is)

-- a list of images
pub in_map : {A B : Type 0} (f : A → B) (x : A) (xs : List A) → In x xs → In (f x) (map f xs)
in_map f x [] h = absurd h
in_map f x (y ∷ xs) (inl e) = inl (ap f e)
in_map f x (y ∷ xs) (inr h) = inr (in_map f x xs h)

pub map_in : {A B : Type 0} (f : A → B) (y : B) (xs : List A) → In y (map f xs) → (x : A) × In x xs × (f x ≡ y)
map_in f y [] h = absurd h
map_in f y (x ∷ xs) (inl e) = (x, inl refl, e)
map_in f y (x ∷ xs) (inr h) = let m = map_in f y xs h in (m.0, inr m.1, m.2)

-- lists of images, one after the other
pub in_flat : {A B : Type 0} (f : A → List B) (x : A) (y : B) (xs : List A) → In x xs → In y (f x) → In y (flat_map f xs)
in_flat f x y [] h at = absurd h
in_flat f x y (z ∷ xs) (inl e) at = in_left y (f z) (flat_map f xs) (subst (λ w. In y (f w)) (sym e) at)
in_flat f x y (z ∷ xs) (inr h) at = in_right y (f z) (flat_map f xs) (in_flat f x y xs h at)

pub flat_in : {A B : Type 0} (f : A → List B) (y : B) (xs : List A) → In y (flat_map f xs) → (x : A) × In x xs × In y (f x)
flat_in f y [] h = absurd h
flat_in f y (z ∷ xs) h = elim (in_parts y (f z) (flat_map f xs) h) [
  | inl a ↦ (z, inl refl, a)
  | inr b ↦ let m = flat_in f y xs b in (m.0, inr m.1, m.2)
]

-- an element of the first list comes before each place of one that isn't there
pub left_before : {A : Type 0} (xs ys : List A) (i : ℕ) (x y : A) → slice_get (xs ++ ys) i ≡ Some x → (In x xs → ⊥) → In y xs
    → (j : ℕ) × (j < i) × (slice_get (xs ++ ys) j ≡ Some y)
left_before [] ys i x y is apart there = absurd there
left_before (z ∷ xs) ys zero x y is apart there = absurd (apart (inl (same_Some z x is)))
left_before (z ∷ xs) ys (suc i) x y is apart (inl e) = (0, omega arith, ap Some e)
left_before (z ∷ xs) ys (suc i) x y is apart (inr h) = let b = left_before xs ys i x y is (λ a. apart (inr a)) h in (suc b.0, omega (arith, b.1), b.2)

-- and so does one of the second list that is before it there
pub right_before : {A : Type 0} (xs ys : List A) (i : ℕ) (x y : A) → slice_get (xs ++ ys) i ≡ Some x → (In x xs → ⊥)
    → ((k : ℕ) → slice_get ys k ≡ Some x → (j : ℕ) × (j < k) × (slice_get ys j ≡ Some y)) → (j : ℕ) × (j < i) × (slice_get (xs ++ ys) j ≡ Some y)
right_before [] ys i x y is apart later = later i is
right_before (z ∷ xs) ys zero x y is apart later = absurd (apart (inl (same_Some z x is)))
right_before (z ∷ xs) ys (suc i) x y is apart later = let b = right_before xs ys i x y is (λ a. apart (inr a)) later in (suc b.0, omega (arith, b.1), b.2)
