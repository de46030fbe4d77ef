-- Two lists in ascending order with the same items are the same.
use Rattle.std.proofs.Common.{◌≡◌, ℕ, suc, ◌+◌, ◌≤◌, List, [], ◌∷◌, inl, inr, true, false, cond, refl, sym, ap, ◌∙◌, subst, arith, Ordering}
use Rattle.std.specs.Prelude.{◌==◌, nat_lt}
use Rattle.std.proofs.lemmas.List.Sums.{sum_by-cons}
use Rattle.std.specs.Str.{bytes_eq}
use Rattle.std.specs.Ordering.{nat_cmp, is_lt, ordering_reverse, ordering_then}
use Rattle.std.specs.declared.cmp.Ordering.TheVariants.{Less, Equal, Greater}
use Rattle.std.specs.Cmp.Lexicographic.{slice_cmp}
use Rattle.std.proofs.lemmas.Cmp.{nat_list_cmp_total}
use Rattle.std.proofs.lemmas.Bool.{cases_Bool, eqb-true, true≢false}
use Rattle.std.proofs.lemmas.Slice.Eq.{bytes_eq-Decides}
use Rattle.wire_spelling.specs.Spelling.{times}
use Rattle.wire_spelling.specs.Numbering.{AreFrom, AreAscending}

-- an item in front, and those behind
pub times_more : (item x : List ℕ) (xs : List (List ℕ)) → times item (x ∷ xs) ≡ cond {A = ℕ} (bytes_eq x item) 1 0 + times item xs
times_more item x xs = sum_by-cons (λ (other : List ℕ). cond {A = ℕ} (bytes_eq other item) 1 0) x xs

pub same_here : (x : List ℕ) → bytes_eq x x ≡ true
same_here x = (bytes_eq-Decides x x).1 refl

pub times_here : (item x : List ℕ) (xs : List (List ℕ)) → x ≡ item → times item (x ∷ xs) ≡ suc (times item xs)
times_here item x xs same =
    let one = ap (λ b. cond {A = ℕ} b 1 0) ((bytes_eq-Decides x item).1 same) in
    let more = times_more item x xs in
    omega (arith, more, one)

pub times_there : (item x : List ℕ) (xs : List (List ℕ)) → bytes_eq x item ≡ false → times item (x ∷ xs) ≡ times item xs
times_there item x xs other =
    let none = ap (λ b. cond {A = ℕ} b 1 0) other in
    let more = times_more item x xs in
    omega (arith, more, none)

-- neither is less: they are the same
neither : (o p : Ordering) → o ≡ ordering_reverse p → is_lt o ≡ false → is_lt p ≡ false → o ≡ Equal
neither Less p e f g = absurd (true≢false f)
neither Equal p e f g = refl
neither Greater Less e f g = absurd (true≢false g)
neither Greater Equal e f g = absurd cc
neither Greater Greater e f g = absurd cc

less_equal : Less ≡ Equal → ⊥
less_equal e = cc

greater_equal : Greater ≡ Equal → ⊥
greater_equal e = cc

pub numbers_equal : (x y : ℕ) → nat_cmp x y ≡ Equal → x ≡ y
numbers_equal x y e = elim (cases_Bool (nat_lt x y)) [
  | inl t ↦ absurd (less_equal (sym (ap (λ b. cond b Less (cond (x == y) Equal Greater)) t) ∙ e))
  | inr f ↦ elim (cases_Bool (x == y)) [
    | inl t ↦ eqb-true x y t
    | inr g ↦ absurd (greater_equal (sym (ap (λ b. cond b Less (cond (x == y) Equal Greater)) f ∙ ap (λ b. cond b Equal Greater) g) ∙ e))
  ]
]

lists_equal : (xs ys : List ℕ) → slice_cmp nat_cmp xs ys ≡ Equal → xs ≡ ys
lists_equal [] [] e = refl
lists_equal [] (y ∷ ys) e = absurd (less_equal e)
lists_equal (x ∷ xs) [] e = absurd (greater_equal e)
lists_equal (x ∷ xs) (y ∷ ys) e = go (nat_cmp x y) refl e (lists_equal xs ys)
  where
    go : (o : Ordering) → nat_cmp x y ≡ o → ordering_then o (slice_cmp nat_cmp xs ys) ≡ Equal → (slice_cmp nat_cmp xs ys ≡ Equal → xs ≡ ys) → x ∷ xs ≡ y ∷ ys
    go Less p e ih = absurd (less_equal e)
    go Equal p e ih = ap (λ v. v ∷ xs) (numbers_equal x y p) ∙ ap (λ vs. y ∷ vs) (ih e)
    go Greater p e ih = absurd (greater_equal e)

pub same_if : (x y : List ℕ) → is_lt (slice_cmp nat_cmp x y) ≡ false → is_lt (slice_cmp nat_cmp y x) ≡ false → x ≡ y
same_if x y f g = lists_equal x y (neither (slice_cmp nat_cmp x y) (slice_cmp nat_cmp y x) (nat_list_cmp_total.antisymm x y) f g)

-- an item isn't less than itself
not_less : (x : List ℕ) → is_lt (slice_cmp nat_cmp x x) ≡ false
not_less x = go (slice_cmp nat_cmp x x) (nat_list_cmp_total.antisymm x x)
  where
    go : (o : Ordering) → o ≡ ordering_reverse o → is_lt o ≡ false
    go Less e = absurd cc
    go Equal e = refl
    go Greater e = refl

-- one that stands among these isn't less than the first of all
from_least : (y x : List ℕ) (ys : List (List ℕ)) → AreFrom y ys → 1 ≤ times x ys → is_lt (slice_cmp nat_cmp x y) ≡ false
from_least y x [] from some = absurd (omega (arith, some))
from_least y x (z ∷ ys) from some = elim (cases_Bool (bytes_eq z x)) [
  | inl t ↦ subst (λ v. is_lt (slice_cmp nat_cmp v y) ≡ false) ((bytes_eq-Decides z x).0 t) from.0
  | inr f ↦ from_least y x ys from.1 (let e = times_there x z ys f in omega (arith, e, some))
]

pub least : (y x : List ℕ) (ys : List (List ℕ)) → AreFrom y ys → 1 ≤ times x (y ∷ ys) → is_lt (slice_cmp nat_cmp x y) ≡ false
least y x ys from some = elim (cases_Bool (bytes_eq y x)) [
  | inl t ↦ subst (λ v. is_lt (slice_cmp nat_cmp v y) ≡ false) ((bytes_eq-Decides y x).0 t) (not_less y)
  | inr f ↦ from_least y x ys from (let e = times_there x y ys f in omega (arith, e, some))
]

pub one_order : (xs ys : List (List ℕ)) → AreAscending xs → AreAscending ys → ((item : List ℕ) → times item xs ≡ times item ys) → xs ≡ ys
one_order [] [] a b same = refl
one_order [] (y ∷ ys) a b same = let e = times_here y y ys refl in let s = same y in absurd (omega (arith, e, s))
one_order (x ∷ xs) [] a b same = let e = times_here x x xs refl in let s = same x in absurd (omega (arith, e, s))
one_order (x ∷ xs) (y ∷ ys) a b same =
    let at_x = times_here x x xs refl in
    let at_y = times_here y y ys refl in
    let of_x = same x in
    let of_y = same y in
    let e : x ≡ y = same_if x y (least y x ys b.0 (omega (arith, at_x, of_x))) (least x y xs a.0 (omega (arith, at_y, of_y))) in
    let rest = one_order xs ys a.1 b.1 (λ item.
    let one = times_more item x xs in
    let two = times_more item y ys in
    let all = same item in
    let first = ap (λ v. cond {A = ℕ} (bytes_eq v item) 1 0) e in
    omega (arith, one, two, all, first)) in
    ap (λ v. v ∷ xs) e ∙ ap (λ vs. y ∷ vs) rest
