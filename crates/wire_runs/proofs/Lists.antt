-- Elements of lists by their numbers: in lists that are joined, that grow at their end, and in which an element is put.
use Rattle.std.proofs.Common.{◌≡◌, ◌∙◌, ◌⊎◌, inl, inr, refl, sym, ap, ℕ, zero, suc, ◌+◌, ◌<◌, ◌≤◌, Bool, true, nat_lt, List, [], ◌∷◌, ◌++◌, map, reverse, take, drop, length, get_or, set}
use Rattle.std.proofs.Common.{Some, None, option_map, slice_get, add-one, arith}
use Rattle.std.specs.List.{list_all}
use Rattle.std.proofs.lemmas.Bool.{and_parts, and_from, cases_lt, lt-ltb, le-ltb}
use Rattle.std.proofs.lemmas.List.{map-append, reverse-append}
use Rattle.std.proofs.lemmas.Option.{none-some, same_Some, slice_get-map}

pub not_in_empty : {A : Type 0} (k : ℕ) (z : A) → slice_get [] k ≡ Some z → ⊥
not_in_empty k z is = none-some z is

-- a list without a first element is empty
pub nil_from_no_first : {A : Type 0} (xs : List A) → slice_get xs 0 ≡ None → xs ≡ []
nil_from_no_first [] e = refl
nil_from_no_first (x ∷ xs) e = absurd (none-some x (sym e))

-- what stands in two lists that are joined
pub slice_get-append_left : {A : Type 0} (xs ys : List A) (i : ℕ) → i < length xs → slice_get (xs ++ ys) i ≡ slice_get xs i
slice_get-append_left [] ys i lt = absurd (omega (arith, lt))
slice_get-append_left (x ∷ xs) ys zero lt = refl
slice_get-append_left (x ∷ xs) ys (suc i) lt = slice_get-append_left xs ys i (omega (arith, lt))

pub slice_get-append_right : {A : Type 0} (xs ys : List A) (i : ℕ) → slice_get (xs ++ ys) (length xs + i) ≡ slice_get ys i
slice_get-append_right [] ys i = let same : 0 + i ≡ i = omega arith in ap (slice_get ys) same
slice_get-append_right (x ∷ xs) ys i =
    let same : length (x ∷ xs) + i ≡ suc (length xs + i) = omega arith in
    ap (slice_get (x ∷ (xs ++ ys))) same ∙ slice_get-append_right xs ys i

pub slice_get-append_kept : {A : Type 0} (xs ys : List A) (i : ℕ) (x : A) → slice_get xs i ≡ Some x → slice_get (xs ++ ys) i ≡ Some x
slice_get-append_kept [] ys i x h = absurd (none-some x h)
slice_get-append_kept (y ∷ xs) ys zero x h = h
slice_get-append_kept (y ∷ xs) ys (suc i) x h = slice_get-append_kept xs ys i x h

-- what stands in a list with one more at its end
pub slice_get_push_kept : {A : Type 0} (xs : List A) (y : A) (i : ℕ) (x : A) → slice_get xs i ≡ Some x → slice_get (xs ++ y ∷ []) i ≡ Some x
slice_get_push_kept xs y = slice_get-append_kept xs (y ∷ [])

pub slice_get_push_last : {A : Type 0} (xs : List A) (y : A) → slice_get (xs ++ y ∷ []) (length xs) ≡ Some y
slice_get_push_last [] y = refl
slice_get_push_last (x ∷ xs) y = slice_get_push_last xs y

pub slice_get_push_cases : {A : Type 0} (xs : List A) (y : A) (i : ℕ) (x : A) → slice_get (xs ++ y ∷ []) i ≡ Some x → (slice_get xs i ≡ Some x) ⊎ ((i ≡ length xs) × (y ≡ x))
slice_get_push_cases [] y zero x h = inr (refl, same_Some _ _ h)
slice_get_push_cases [] y (suc i) x h = absurd (none-some x h)
slice_get_push_cases (z ∷ xs) y zero x h = inl h
slice_get_push_cases (z ∷ xs) y (suc i) x h = elim (slice_get_push_cases xs y i x h) [ inl before ↦ inl before | inr last ↦ inr (ap suc last.0, last.1) ]

pub one_longer : {A : Type 0} (xs : List A) (y : A) → length (xs ++ y ∷ []) ≡ suc (length xs)
one_longer [] y = refl
one_longer (x ∷ xs) y = ap suc (one_longer xs y)

-- what stands in a mapped list
pub slice_get-map_kept : {A B : Type 0} (f : A → B) (xs : List A) (i : ℕ) (x : A) → slice_get xs i ≡ Some x → slice_get (map f xs) i ≡ Some (f x)
slice_get-map_kept f xs i x is = slice_get-map f xs i ∙ ap (option_map f) is

pub slice_get-map_back : {A B : Type 0} (f : A → B) (xs : List A) (i : ℕ) (y : B) → slice_get (map f xs) i ≡ Some y → (x : A) × (slice_get xs i ≡ Some x) × (f x ≡ y)
slice_get-map_back f [] i y is = absurd (none-some y is)
slice_get-map_back f (x ∷ xs) zero y is = (x, refl, same_Some _ _ is)
slice_get-map_back f (x ∷ xs) (suc i) y is = slice_get-map_back f xs i y is

-- a front of a list with one element more
pub take_get : {A : Type 0} (xs : List A) (n : ℕ) (x : A) → slice_get xs n ≡ Some x → take (suc n) xs ≡ take n xs ++ x ∷ []
take_get [] n x h = absurd (none-some x h)
take_get (y ∷ ys) zero x h = ap (λ z. z ∷ []) (same_Some y x h)
take_get (y ∷ ys) (suc n) x h = ap (λ zs. y ∷ zs) (take_get ys n x h)

-- one element more of a list is mapped
set_mapped : {A : Type 0} (f : A → A) (xs : List A) (i : ℕ) (d : A) → i < length xs → set (map f (take i xs) ++ drop i xs) i (f (get_or (map f (take i xs) ++ drop i xs) i d)) ≡ map f (take (suc i) xs)
    ++ drop (suc i) xs
set_mapped f [] i d low = absurd (omega (arith, low))
set_mapped f (x ∷ xs) zero d low = refl
set_mapped f (x ∷ xs) (suc i) d low = ap (λ zs. f x ∷ zs) (set_mapped f xs i d (omega (arith, low)))

pub map_step : {A : Type 0} (f : A → A) (xs ys : List A) (i : ℕ) (d : A) → i < length xs → ys ≡ map f (take i xs) ++ drop i xs → set ys i (f (get_or ys i d)) ≡ map f (take (i + 1) xs)
    ++ drop (i + 1) xs
map_step f xs ys i d low e =
    ap (λ zs. set zs i (f (get_or zs i d))) e
    ∙ set_mapped f xs i d low
    ∙ ap (λ n. map f (take n xs) ++ drop n xs) (sym (add-one i))

pub reverse-map : {A B : Type 0} (f : A → B) (xs : List A) → reverse (map f xs) ≡ map f (reverse xs)
reverse-map f [] = refl
reverse-map f (x ∷ xs) =
    reverse-append (f x ∷ []) (map f xs)
    ∙ ap (λ ys. ys ++ f x ∷ []) (reverse-map f xs)
    ∙ sym (map-append f (reverse xs) (x ∷ []))
    ∙ ap (map f) (sym (reverse-append (x ∷ []) xs))

-- a number that was raised, in a list of numbers
pub set_raises : (xs : List ℕ) (k n : ℕ) → get_or xs k 0 ≤ n → (j : ℕ) → get_or xs j 0 ≤ get_or (set xs k n) j 0
set_raises [] k n le j = omega arith
set_raises (x ∷ xs) zero n le zero = le
set_raises (x ∷ xs) zero n le (suc j) = omega arith
set_raises (x ∷ xs) (suc k) n le zero = omega arith
set_raises (x ∷ xs) (suc k) n le (suc j) = set_raises xs k n le j

-- what holds of each element, where more holds of it
pub list_all_weaker : {A : Type 0} (f g : A → Bool) (xs : List A) → ((x : A) → f x ≡ true → g x ≡ true) → list_all f xs ≡ true → list_all g xs ≡ true
list_all_weaker f g [] up h = refl
list_all_weaker f g (x ∷ xs) up h = let b = and_parts _ _ h in and_from _ _ (up x b.0) (list_all_weaker f g xs up b.1)

-- the number of an element after one more and the length with one more
pub less_both : (n m : ℕ) → nat_lt (1 + n) (suc m) ≡ nat_lt n m
less_both n m = elim (cases_lt n m) [
  | inl low ↦ lt-ltb (1 + n) (suc m) (omega (arith, low)) ∙ sym (lt-ltb n m low)
  | inr high ↦ le-ltb (1 + n) (suc m) (omega (arith, high)) ∙ sym (le-ltb n m high)
]
