-- The list of lines as it grows, and in its order.
use Rattle.std.proofs.Common.{◌≡◌, ℕ, zero, suc, ◌<◌, List, [], ◌∷◌, ◌++◌, Bool, true, false, Some, refl, sym, ap, ◌∙◌, subst, length, get_or}
use Rattle.std.specs.Prelude.{MatchBool, not, slice_get}
use Rattle.std.specs.List.{AllByRecursion}
use Rattle.std.specs.List.Retain.{DedupsFrom, IsDeduped}
use Rattle.std.specs.List.Sorted.{IsPermutation}
use Rattle.std.proofs.lemmas.Bool.{true≢false, and_parts}
use Rattle.std.proofs.lemmas.List.Elements.{All-from_recursion}
use Rattle.std.proofs.lemmas.List.Sorted.{IsPermutation-sym, All-permutation}
use Rattle.std.proofs.lemmas.Option.{none-some, same_Some, slice_get_within, slice_get-get_or}
use Rattle.wire_portable.specs.declared.libraries.Libraries.{Libraries}
use Rattle.wire_portable.specs.declared.libraries.Library.{Library}
use Rattle.wire_portable.specs.declared.libraries.Library.TheVariants.{V4, V5, V7}
use Rattle.wire_portable.specs.declared.listed.Unportable.{Unportable}
use Rattle.wire_portable.specs.Adding.{AddsUnportable}
use Rattle.wire_portable.specs.Libraries.{has, is_empty}
use Rattle.wire_portable.specs.Unportable.{IsUnblamed}
use Rattle.wire_portable.proofs.Gathered.{index_some}

-- what holds of each line holds of each in another order, and of those that are left
module _ (P : Unportable → Type 0) where
  abbrev Each : List Unportable → Type 0
  Each xs = (k : ℕ) (line : Unportable) → slice_get xs k ≡ Some line → P line

  each_by_turn : (xs : List Unportable) → Each xs → AllByRecursion P xs
  each_by_turn [] e = tt
  each_by_turn (x ∷ xs) e = (e 0 x refl, each_by_turn xs (λ k line is. e (suc k) line is))

  each_from_turn : (xs : List Unportable) → AllByRecursion P xs → Each xs
  each_from_turn [] a k line is = absurd (none-some line is)
  each_from_turn (x ∷ xs) a zero line is = subst P (same_Some _ _ is) a.0
  each_from_turn (x ∷ xs) a (suc k) line is = each_from_turn xs a.1 k line is

  pub each_moved : (xs ys : List Unportable) → IsPermutation xs ys → Each xs → Each ys
  each_moved xs ys p e k line is =
      let all = All-permutation P xs ys p (All-from_recursion P xs (each_by_turn xs e)) in
      subst P (index_some ys k line line is) (all k line (slice_get_within ys k line is))

  module _ {F : Type 0} (R : F → Unportable → Unportable → Bool → F → Unportable → Unportable → Type 0) (f : F)
      (h : (x y : Unportable) (b : Bool) (f' : F) (x' y' : Unportable) → R f x y b f' x' y' → (f' ≡ f) × (x' ≡ x) × (y' ≡ y)) where
    those_left : (xs : List Unportable) (g : F) (k : Unportable) (ys : List Unportable) → g ≡ f → DedupsFrom R g k xs ys → P k → AllByRecursion P xs → AllByRecursion P ys
    those_left [] g k ys e t first a = subst (AllByRecursion P) (sym t) (first, tt)
    those_left (x ∷ xs) g k ys e t first a =
        let one = h x k t.0 t.1 t.2 t.3 (subst (λ (q : F). R q x k t.0 t.1 t.2 t.3) e t.4) in
        let next = λ (y : Unportable) (zs : List Unportable) (rest : DedupsFrom R t.1 y xs zs) (here : P y). those_left xs t.1 y zs one.0 rest here a.1 in
        (elim t.0 as (λ b. MatchBool b (DedupsFrom R t.1 t.3 xs ys) ((zs : List Unportable) × DedupsFrom R t.1 t.2 xs zs × (ys ≡ t.3 ∷ zs)) → AllByRecursion P ys) [
          | true ↦ λ rest. next t.3 ys rest (subst P (sym one.2) first)
          | false ↦ λ rest. subst (AllByRecursion P) (sym rest.2) (subst P (sym one.2) first, next t.2 rest.0 rest.1 (subst P (sym one.1) a.0))
        ]) t.5

    pub each_left : (xs ys : List Unportable) → IsDeduped R f xs ys → Each xs → Each ys
    each_left [] ys d e = subst Each (sym d.told) e
    each_left (x ∷ xs) ys d e = let a = each_by_turn (x ∷ xs) e in each_from_turn ys (those_left xs f x ys refl d.told a.0 a.1)

module _ (library : Library) where
  abbrev IsFree : Unportable → Type 0
  IsFree line = has line.libraries library ≡ false

  by_turn : (xs : List Unportable) → IsUnblamed library xs → AllByRecursion IsFree xs
  by_turn [] u = tt
  by_turn (x ∷ xs) u = (u 0 x refl, by_turn xs (λ k line is. u (suc k) line is))

  from_turn : (xs : List Unportable) → AllByRecursion IsFree xs → IsUnblamed library xs
  from_turn [] a k line is = absurd (none-some line is)
  from_turn (x ∷ xs) a zero line is = subst IsFree (same_Some _ _ is) a.0
  from_turn (x ∷ xs) a (suc k) line is = from_turn xs a.1 k line is

  -- a line more
  last_too : (xs : List Unportable) (x : Unportable) → AllByRecursion IsFree (xs ++ x ∷ []) → AllByRecursion IsFree xs × IsFree x
  last_too [] x a = (tt, a.0)
  last_too (y ∷ ys) x a = let rest = last_too ys x a.1 in ((a.0, rest.0), rest.1)

  pub pushed : (xs : List Unportable) (x : Unportable) → IsUnblamed library (xs ++ x ∷ []) → IsUnblamed library xs × IsFree x
  pushed xs x u = let rest = last_too xs x (by_turn (xs ++ x ∷ []) u) in (from_turn xs rest.0, rest.1)

  -- the lines in another order
  pub moved : (xs ys : List Unportable) → IsPermutation xs ys → IsUnblamed library ys → IsUnblamed library xs
  moved xs ys p u k line is =
      let all = All-permutation IsFree ys xs (IsPermutation-sym xs ys p) (All-from_recursion IsFree ys (by_turn ys u)) in
      subst IsFree (index_some xs k line line is) (all k line (slice_get_within xs k line is))

  -- each once
  module _ {F : Type 0} (R : F → Unportable → Unportable → Bool → F → Unportable → Unportable → Type 0) (f : F)
      (h : (x y : Unportable) (b : Bool) (f' : F) (x' y' : Unportable) → R f x y b f' x' y' → (b ≡ true → x.libraries ≡ y.libraries) × (f' ≡ f) × (x' ≡ x) × (y' ≡ y)) where
    from_kept : (xs : List Unportable) (g : F) (k : Unportable) (ys : List Unportable) → g ≡ f → DedupsFrom R g k xs ys → AllByRecursion IsFree ys → IsFree k × AllByRecursion IsFree xs
    from_kept [] g k ys e t a = ((subst (AllByRecursion IsFree) t a).0, tt)
    from_kept (x ∷ xs) g k ys e t a =
        let one = h x k t.0 t.1 t.2 t.3 (subst (λ (q : F). R q x k t.0 t.1 t.2 t.3) e t.4) in
        let next = λ (y : Unportable) (zs : List Unportable) (rest : DedupsFrom R t.1 y xs zs) (free : AllByRecursion IsFree zs). from_kept xs t.1 y zs one.1 rest free in
        (elim t.0 as (λ b. (b ≡ true → x.libraries ≡ k.libraries) → MatchBool b (DedupsFrom R t.1 t.3 xs ys) ((zs : List Unportable) × DedupsFrom R t.1 t.2 xs zs × (ys ≡ t.3 ∷ zs)) → IsFree k × AllByRecursion IsFree (x ∷ xs)) [
          | true ↦ λ same rest.
              (let r = next t.3 ys rest a in
              let here = subst IsFree one.3 r.0 in
              (here, (ap (λ s. has s library) (same refl) ∙ here, r.1)))
          | false ↦ λ same rest.
              (let free = subst (AllByRecursion IsFree) rest.2 a in
              let r = next t.2 rest.0 rest.1 free.1 in
              (subst IsFree one.3 free.0, (subst IsFree one.2 r.0, r.1)))
        ]) one.0 t.5

    pub all_kept : (xs ys : List Unportable) → IsDeduped R f xs ys → IsUnblamed library ys → IsUnblamed library xs
    all_kept [] ys d u k line is = absurd (none-some line is)
    all_kept (x ∷ xs) ys d u k line is = let r = from_kept xs f x ys refl d.told (by_turn ys u) in from_turn (x ∷ xs) (r.0, r.1) k line is

not_true : (b : Bool) → not b ≡ true → b ≡ false
not_true true h = sym h
not_true false h = refl

-- an empty set has no library
pub empty_has : (s : Libraries) → is_empty s ≡ true → (library : Library) → has s library ≡ false
empty_has s e V4 = not_true s.v4 (and_parts _ _ e).0
empty_has s e V5 = not_true s.v5 (and_parts _ _ (and_parts _ _ e).1).0
empty_has s e V7 = not_true s.v7 (and_parts _ _ (and_parts _ _ e).1).1

-- one with all has each
pub full_has : (s : Libraries) → s.v4 ≡ true → s.v5 ≡ true → s.v7 ≡ true → (library : Library) → has s library ≡ true
full_has s a b c V4 = a
full_has s a b c V5 = b
full_has s a b c V7 = c

-- a line with all blames each
pub all_blamed : (xs : List Unportable) (k : ℕ) (d : Unportable) → k < length xs → (get_or xs k d).libraries.v4 ≡ true → (get_or xs k d).libraries.v5 ≡ true →
    (get_or xs k d).libraries.v7 ≡ true → (library : Library) → IsUnblamed library xs → ⊥
all_blamed xs k d lt a b e library u = true≢false (sym (full_has (get_or xs k d).libraries a b e library) ∙ u k (get_or xs k d) (slice_get-get_or xs k d lt))

-- nothing is said where no library is blamed
pub adds_none : (s : Libraries) (xs : List Unportable) → is_empty s ≡ true → AddsUnportable xs xs (λ library. has s library ≡ false)
adds_none s xs e = λ library u. (u, empty_has s e library)

pub adds_line : (xs ys : List Unportable) (x : Unportable) → ys ≡ xs ++ x ∷ [] → AddsUnportable xs ys (λ library. has x.libraries library ≡ false)
adds_line xs ys x e = λ library u. pushed library xs x (subst (IsUnblamed library) e u)
