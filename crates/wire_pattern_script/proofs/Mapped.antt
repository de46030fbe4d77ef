-- Tests, counts and places over lists that are mapped.
use Rattle.std.proofs.Common.{◌≡◌, ◌∙◌, ap, sym, refl, ℕ, ◌+◌, ◌<◌, ◌≤◌, List, [], ◌∷◌, Bool, true, false, cond, Some, None, map, count_by, arith, length, get_or, take, ◌++◌}
use Rattle.std.proofs.Common.{length-take}
use Rattle.std.specs.Prelude.{◌&&◌, ◌||◌, ◌==◌, not, nat_lt, position}
use Rattle.std.specs.Borrow.{Bor}
use Rattle.std.specs.Str.{bytes_eq}
use Rattle.wire_types.specs.Texts.{texts_of}
use Rattle.std.specs.List.{list_all, list_any, position_or_len}
use Rattle.std.proofs.lemmas.List.{take_all}
use Rattle.std.proofs.lemmas.Grind.{common_steps}
use Rattle.std.proofs.lemmas.List.Folds.{length-prefix_len}
use borrow.Author.Tests.{ltb-false}

pub all_of : {X Y : Type 0} (f : X → Y) (p : Y → Bool) (xs : List X) → list_all (λ x. p (f x)) xs ≡ list_all p (map f xs)
all_of f p [] = refl
all_of f p (x ∷ xs) = ap (λ b. p (f x) && b) (all_of f p xs)

pub any_of : {X Y : Type 0} (f : X → Y) (p : Y → Bool) (xs : List X) → list_any (λ x. p (f x)) xs ≡ list_any p (map f xs)
any_of f p [] = refl
any_of f p (x ∷ xs) = ap (λ b. p (f x) || b) (any_of f p xs)

pub any_of_two : {X Y Z : Type 0} (f : X → Y) (g : Y → Z) (p : Z → Bool) (xs : List X) → list_any (λ x. p (g (f x))) xs ≡ list_any p (map g (map f xs))
any_of_two f g p [] = refl
any_of_two f g p (x ∷ xs) = ap (λ b. p (g (f x)) || b) (any_of_two f g p xs)

pub count_of : {X Y : Type 0} (f : X → Y) (p : Y → Bool) (xs : List X) → count_by (λ x. p (f x)) xs ≡ count_by p (map f xs)
count_of f p [] = refl
count_of f p (x ∷ xs) = grind (arith, common_steps, count_of f p xs)

-- names that are each there once
pub once_texts : (all words : List (Bor (List ℕ))) → list_all (λ m. count_by (λ n. bytes_eq m.now n.now) all == 1) words
    ≡ list_all (λ name. count_by (bytes_eq name) (texts_of all) == 1) (texts_of words)
once_texts all [] = refl
once_texts all (w ∷ words) = λ t. (count_of (λ (n : Bor (List ℕ)). n.now) (bytes_eq w.now) all t == 1) && once_texts all words t

place_found : {X : Type 0} (p : X → Bool) (xs : List X) (t : Bool) (i : ℕ) → t ≡ nat_lt (position_or_len p xs) (length xs) → Some i ≡ cond t (Some (position_or_len p xs)) None → i ≡ position_or_len p xs
place_found p xs true i e s = cc
place_found p xs false i e s = cc

place_none : {X : Type 0} (p : X → Bool) (xs : List X) (t : Bool) → t ≡ nat_lt (position_or_len p xs) (length xs) → None ≡ cond t (Some (position_or_len p xs)) None → length xs ≤ position_or_len p xs
place_none p xs true e s = cc
place_none p xs false e s = ltb-false _ _ (sym e)

place_mapped : {X Y Z : Type 0} (f : X → Y) (g : Y → Z) (p : Z → Bool) (xs : List X) → position_or_len (λ x. p (g (f x))) xs ≡ position_or_len p (map g (map f xs))
place_mapped f g p [] = refl
place_mapped f g p (x ∷ xs) = ap (λ n. cond (not (p (g (f x)))) (1 + n) 0) (place_mapped f g p xs)

pub number_found : {X Y Z : Type 0} (f : X → Y) (g : Y → Z) (p : Z → Bool) (xs : List X) (i : ℕ) → Some i ≡ position (λ x. p (g (f x))) xs → i ≡ position_or_len p (map g (map f xs))
number_found f g p xs i e = place_found (λ x. p (g (f x))) xs _ i refl e ∙ place_mapped f g p xs

pub number_none : {X Y Z : Type 0} (f : X → Y) (g : Y → Z) (p : Z → Bool) (xs : List X) → None ≡ position (λ x. p (g (f x))) xs → length xs ≡ position_or_len p (map g (map f xs))
number_none f g p xs e =
    let long = place_none (λ x. p (g (f x))) xs _ refl e in
    let most : position_or_len (λ x. p (g (f x))) xs ≤ length xs = omega (arith, length-prefix_len (λ x. not (p (g (f x)))) xs, length-take (position_or_len (λ x. p (g (f x))) xs) xs) in
    (let same : length xs ≡ position_or_len (λ x. p (g (f x))) xs = omega arith in same) ∙ place_mapped f g p xs

-- one more element of a list that is mapped
pub pushed_one : {A B C : Type 0} (v : C → B) (g : A → B) (out : List C) (xs : List A) (i : ℕ) (y : C) (x d : A) → i < length xs → x ≡ get_or xs i d
    → map v out ≡ map g (take i xs) → v y ≡ g x → map v (out ++ y ∷ []) ≡ map g (take (i + 1) xs)
pushed_one v g out xs i y x d lt is so_far same = grind (arith, common_steps)

pub whole_one : {A B C : Type 0} (v : C → B) (g : A → B) (out : List C) (xs : List A) (i : ℕ) → length xs ≤ i → map v out ≡ map g (take i xs) → map v out ≡ map g xs
whole_one v g out xs i past so_far = so_far ∙ ap (map g) (take_all i xs past)

pub pushed : {A B C D : Type 0} (v : C → B) (h : D → B) (f : A → D) (out : List C) (xs : List A) (i : ℕ) (y : C) (x d : A) → i < length xs → x ≡ get_or xs i d
    → map v out ≡ map h (map f (take i xs)) → v y ≡ h (f x) → map v (out ++ y ∷ []) ≡ map h (map f (take (i + 1) xs))
pushed v h f out xs i y x d lt is so_far same = grind (arith, common_steps)

pub whole : {A B C D : Type 0} (v : C → B) (h : D → B) (f : A → D) (out : List C) (xs : List A) (i : ℕ) → length xs ≤ i → map v out ≡ map h (map f (take i xs)) → map v out ≡ map h (map f xs)
whole v h f out xs i past so_far = so_far ∙ ap (λ l. map h (map f l)) (take_all i xs past)
