-- Permits that are cut from each worker in turn.
use Rattle.std.proofs.Common.{◌≡◌, ◌≢◌, ℕ, zero, suc, ◌+◌, ◌<◌, ◌≤◌, List, [], ◌∷◌, ◌++◌, length, set, sym, refl, ap, ◌∙◌, subst, ⊎_elim, arith, length-set, length-append, ◌⊎◌, inl, inr, ◌≤◌, map}
use mathlib.Core.Option.{some, some-ne-none, some-injective}
use lib.ListN.{get_elem?}
use Rattle.crossbeam_deque.specs.Handles as deque
use Rattle.crossbeam_deque.proofs.Lists.{at_set}
use Rattle.wire_rounds.specs.declared.round.Pass.{Pass}
use Rattle.wire_rounds.specs.Rounds.{Permit}
use Rattle.wire_rounds.specs.Deques.{EachPair, GaveOne, IsPermitOf}
use Rattle.wire_rounds.specs.Taken.{taken_at}

-- what stands in a longer list at a place
pub get_snoc : {A : Type 0} → (xs : List A) (x y : A) (k : ℕ) → get_elem? (xs ++ x ∷ []) k ≡ some y → (get_elem? xs k ≡ some y) ⊎ ((k ≡ length xs) × (x ≡ y))
get_snoc [] x y zero e = inr (refl, some-injective x y e)
get_snoc [] x y (suc k) e = absurd (some-ne-none y (sym e))
get_snoc (z ∷ xs) x y zero e = inl e
get_snoc (z ∷ xs) x y (suc k) e = ⊎_elim (λ h. inl h) (λ (h : (k ≡ length xs) × (x ≡ y)). inr (ap suc h.0, h.1)) (get_snoc xs x y k e)

pub get_last : {A : Type 0} (xs : List A) (x : A) → get_elem? (xs ++ x ∷ []) (length xs) ≡ some x
get_last [] x = refl
get_last (y ∷ xs) x = get_last xs x

pub get_longer : {A : Type 0} (xs ys : List A) (k : ℕ) (x : A) → get_elem? xs k ≡ some x → get_elem? (xs ++ ys) k ≡ some x
get_longer [] ys k x e = absurd (some-ne-none x (sym e))
get_longer (y ∷ xs) ys zero x e = e
get_longer (y ∷ xs) ys (suc k) x e = get_longer xs ys k x e

pub get_within : {A : Type 0} → (xs : List A) (k : ℕ) (x : A) → get_elem? xs k ≡ some x → k < length xs
get_within [] k x e = absurd (some-ne-none x (sym e))
get_within (y ∷ xs) zero x e = omega arith
get_within (y ∷ xs) (suc k) x e = let h = get_within xs k x e in omega arith

pub get_same : {A : Type 0} → (xs : List A) (k : ℕ) (x y : A) → get_elem? xs k ≡ some x → get_elem? xs k ≡ some y → x ≡ y
get_same xs k x y a b = some-injective x y (sym a ∙ b)

pub record RowSoFar (before now : List Pass) (row : List Permit) (i : ℕ) : Type 0 where
  pub same_length : length now ≡ length before
  pub so_far : length row ≡ i
  pub cut : (k : ℕ) (a b : Pass) → get_elem? before k ≡ some a → get_elem? now k ≡ some b → (k < i → GaveOne a b) × (i ≤ k → b ≡ a)
  pub permits : (k : ℕ) (a : Pass) (t : Permit) → get_elem? before k ≡ some a → get_elem? row k ≡ some t → IsPermitOf a.own t

pub row_goes_on : (before now : List Pass) (row : List Permit) (i : ℕ) (p q : Pass) (t : Permit) → RowSoFar before now row i → get_elem? now i ≡ some p → GaveOne p q → IsPermitOf p.own t
    → RowSoFar before (set now i q) (row ++ t ∷ []) (i + 1)
row_goes_on before now row i p q t h at cut permit = record {
  same_length = length-set now i q ∙ h.same_length;
  so_far = length-append row (t ∷ []) ∙ ap (λ n. n + 1) h.so_far;
  cut = λ k a b x y.
      ⊎_elim (λ (is : (k ≡ i) × (q ≡ b)).
      let there : get_elem? now k ≡ some p = subst (λ j. get_elem? now j ≡ some p) (sym is.0) at in
      let e : i ≤ k = omega (arith, is.0) in
      let pa : p ≡ a = (h.cut k a p x there).1 e in
      ((λ _. subst (λ z. GaveOne z b) pa (subst (GaveOne p) is.1 cut)), λ more. absurd (omega (arith, is.0))))
      (λ (is : (k ≢ i) × (get_elem? now k ≡ some b)).
      let old = h.cut k a b x is.1 in
      let n = is.0 in
      ((λ less. old.0 (omega arith)), λ more. old.1 (omega arith))) (at_set now i k q b y);
  permits = λ k a u x y.
      ⊎_elim (λ here. h.permits k a u x here)
      (λ (is : (k ≡ length row) × (t ≡ u)).
      let k_is : k ≡ i = is.0 ∙ h.so_far in
      let there : get_elem? now k ≡ some p = subst (λ j. get_elem? now j ≡ some p) (sym k_is) at in
      let e : i ≤ k = omega (arith, k_is) in
      let pa : p ≡ a = (h.cut k a p x there).1 e in
      subst (λ z. IsPermitOf z.own u) pa (subst (IsPermitOf p.own) is.1 permit)) (get_snoc row t u k y);
}

pub row_ends : (before now : List Pass) (row : List Permit) (i : ℕ) → RowSoFar before now row i → i ≡ length before → EachPair GaveOne before now × EachPair (λ p t. IsPermitOf p.own t) before row
row_ends before now row i h all = (
  (sym h.same_length, λ k a b x y. (h.cut k a b x y).0 (let w = get_within before k a x in omega arith)),
  (sym (h.so_far ∙ all), h.permits),
)

pub get_there : {A : Type 0} → (xs : List A) (k : ℕ) → k < length xs → (x : A) × (get_elem? xs k ≡ some x)
get_there [] k h = absurd (omega arith)
get_there (x ∷ xs) zero h = (x, refl)
get_there (x ∷ xs) (suc k) h = get_there xs k (omega arith)

-- the worker whose turn it is has not changed yet
pub row_next : (before now : List Pass) (row : List Permit) (i : ℕ) (p : Pass) → RowSoFar before now row i → get_elem? now i ≡ some p → get_elem? before i ≡ some p
row_next before now row i p h at =
    let w = get_within now i p at in
    let there = get_there before i (omega (arith, h.same_length)) in
    let e : i ≤ i = omega arith in
    there.1 ∙ ap some (sym ((h.cut i there.0 p there.1 at).1 e))

-- what is taken at a deque is what its permit tells
pub taken_there : (ts : List Permit) (k : ℕ) (t : Permit) → get_elem? ts k ≡ some t → taken_at k (map (λ (u : Permit). deque.view u) ts) ≡ (deque.view t).taken
taken_there [] k t at = absurd (some-ne-none t (sym at))
taken_there (x ∷ ts) zero t at = ap (λ (u : Permit). (deque.view u).taken) (some-injective x t at)
taken_there (x ∷ ts) (suc k) t at = taken_there ts k t at
