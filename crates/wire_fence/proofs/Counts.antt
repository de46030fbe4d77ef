-- Counts over the members of a set.
use Rattle.std.proofs.Common.{◌≡◌, ◌∙◌, ℕ, suc, ◌+◌, ◌<◌, List, [], ◌∷◌, Bool, true, false, cond, ◌&&◌, ◌==◌, nat_lt, length, count_by, refl, sym, ap, subst, inl, inr, arith}
use Rattle.std.specs.Prelude.{⊤}
use Rattle.std.specs.List.{list_all}
use Rattle.std.proofs.lemmas.Bool.{cases_Bool, cases_eq, true≢false, eqb-true, eq-eqb, ne_eqb, ltb-true, ltb-false, eqb-false, and_parts, cond_both}
use Rattle.std.proofs.lemmas.List.Sums.{sum_by-cons, count_by-le-length}
use Rattle.std.proofs.Math.Bool.{and-true, and-false}
use Rattle.wire_runs.specs.Plan.{with_member, set_of}
use Rattle.wire_runs.specs.Fences.{is_member}

pub count-cons : {X : Type 0} (test : X → Bool) (x : X) (xs : List X) → count_by test (x ∷ xs) ≡ cond (test x) 1 0 + count_by test xs
count-cons test x xs = sum_by-cons (λ y. cond (test y) 1 0) x xs

pub count-yes : {X : Type 0} (test : X → Bool) (x : X) (xs : List X) → test x ≡ true → count_by test (x ∷ xs) ≡ suc (count_by test xs)
count-yes test x xs t = count-cons test x xs ∙ ap (λ b. cond b 1 0 + count_by test xs) t ∙ omega arith

pub count-no : {X : Type 0} (test : X → Bool) (x : X) (xs : List X) → test x ≡ false → count_by test (x ∷ xs) ≡ count_by test xs
count-no test x xs f = count-cons test x xs ∙ ap (λ b. cond b 1 0 + count_by test xs) f ∙ omega arith

-- tests that agree count the same
pub count_same : {X : Type 0} (f g : X → Bool) → ((x : X) → f x ≡ g x) → (xs : List X) → count_by f xs ≡ count_by g xs
count_same f g same xs = λ i. count_by (λ x. same x i) xs

pub all_same : {X : Type 0} (f g : X → Bool) → ((x : X) → f x ≡ g x) → (xs : List X) → list_all f xs ≡ list_all g xs
all_same f g same xs = λ i. list_all (λ x. same x i) xs

-- none passes
pub count_none : {X : Type 0} (test : X → Bool) → ((x : X) → test x ≡ false) → (xs : List X) → count_by test xs ≡ 0
count_none test none [] = refl
count_none test none (x ∷ xs) = count-no test x xs (none x) ∙ count_none test none xs

pub all_pass : {X : Type 0} (test : X → Bool) → ((x : X) → test x ≡ true) → (xs : List X) → list_all test xs ≡ true
all_pass test each [] = refl
all_pass test each (x ∷ xs) = rw (each x) (all_pass test each xs)

-- all pass where the count is all
pub count_all : {X : Type 0} (test : X → Bool) (xs : List X) → list_all test xs ≡ true → count_by test xs ≡ length xs
count_all test [] all = refl
count_all test (x ∷ xs) all =
    let parts = and_parts (test x) (list_all test xs) all in
    count-yes test x xs parts.0 ∙ ap suc (count_all test xs parts.1)

pub all_counted : {X : Type 0} (test : X → Bool) (xs : List X) → count_by test xs ≡ length xs → list_all test xs ≡ true
all_counted test [] full = refl
all_counted test (x ∷ xs) full = elim (cases_Bool (test x)) [
  | inl t ↦ let more = count-yes test x xs t in rw t (all_counted test xs (omega (arith, more, full)))
  | inr f ↦
      let same = count-no test x xs f in
      let le = count_by-le-length test xs in
      absurd (omega (arith, same, le, full))
]

pub all_by_count : {X : Type 0} (test : X → Bool) (xs : List X) → (count_by test xs == length xs) ≡ list_all test xs
all_by_count test xs = elim (cases_eq (count_by test xs) (length xs)) [
  | inl full ↦ eq-eqb (count_by test xs) (length xs) full ∙ sym (all_counted test xs full)
  | inr short ↦
      elim (cases_Bool (list_all test xs)) [
        | inl all ↦ absurd (short (count_all test xs all))
        | inr none ↦ ne_eqb (count_by test xs) (length xs) short ∙ sym none
      ]
]

-- a member that fails isn't counted
pub count_short : (test : ℕ → Bool) (members : List ℕ) (p : ℕ) → is_member members p ≡ true → test p ≡ false → count_by test members < length members
count_short test [] p member f = absurd (true≢false (sym member))
count_short test (x ∷ xs) p member f = elim (cases_Bool (x == p)) [
  | inl here ↦
      let no = count-no test x xs (ap test (eqb-true x p here) ∙ f) in
      let le = count_by-le-length test xs in
      omega (arith, no, le)
  | inr other ↦
      let short = count_short test xs p (rw other at member) f in
      let step = count-cons test x xs in
      elim (cases_Bool (test x)) [
        | inl t ↦ let yes = count-yes test x xs t in omega (arith, yes, short)
        | inr n ↦ let no = count-no test x xs n in omega (arith, no, short)
      ]
]

-- members that are there once
abbrev pub AreDistinct : List ℕ → Type 0
AreDistinct [] = ⊤
AreDistinct (x ∷ xs) = (is_member xs x ≡ false) × AreDistinct xs

-- tests that agree but at p
pub count_without : (f g : ℕ → Bool) (p : ℕ) → ((m : ℕ) → (m ≡ p → ⊥) → f m ≡ g m) → (members : List ℕ) → is_member members p ≡ false → count_by f members ≡ count_by g members
count_without f g p same [] none = refl
count_without f g p same (x ∷ xs) none = elim (cases_Bool (x == p)) [
  | inl here ↦ absurd (true≢false (sym (rw here refl) ∙ none))
  | inr other ↦
      count-cons f x xs
      ∙ ap (λ b. cond b 1 0 + count_by f xs) (same x (eqb-false x p other))
      ∙ ap (λ n. cond (g x) 1 0 + n) (count_without f g p same xs (rw other at none))
      ∙ sym (count-cons g x xs)
]

-- a member more passes
pub count_one_more : (f g : ℕ → Bool) (p : ℕ) → ((m : ℕ) → (m ≡ p → ⊥) → f m ≡ g m) → f p ≡ false → g p ≡ true → (members : List ℕ) → AreDistinct members → is_member members p ≡ true →
    count_by g members ≡ suc (count_by f members)
count_one_more f g p same before after [] distinct member = absurd (true≢false (sym member))
count_one_more f g p same before after (x ∷ xs) distinct member = elim (cases_Bool (x == p)) [
  | inl here ↦
      let is_p = eqb-true x p here in
      count-yes g x xs (ap g is_p ∙ after)
      ∙ ap suc (sym (count_without f g p same xs (ap (is_member xs) (sym is_p) ∙ distinct.0)))
      ∙ ap suc (sym (count-no f x xs (ap f is_p ∙ before)))
  | inr other ↦
      let rest = count_one_more f g p same before after xs distinct.1 (rw other at member) in
      let alike = same x (eqb-false x p other) in
      count-cons g x xs
      ∙ ap (λ b. cond b 1 0 + count_by g xs) (sym alike)
      ∙ ap (λ n. cond (f x) 1 0 + n) rest
      ∙ add_one_right (cond (f x) 1 0) (count_by f xs)
      ∙ ap suc (sym (count-cons f x xs))
]
  where
    add_one_right : (a b : ℕ) → a + suc b ≡ suc (a + b)
    add_one_right a b = omega arith

pub all_fails : (test : ℕ → Bool) (members : List ℕ) (p : ℕ) → is_member members p ≡ true → test p ≡ false → list_all test members ≡ false
all_fails test [] p member f = absurd (true≢false (sym member))
all_fails test (x ∷ xs) p member f = elim (cases_Bool (x == p)) [
  | inl here ↦ rw (ap test (eqb-true x p here) ∙ f) refl
  | inr other ↦
      elim (cases_Bool (test x)) [
        | inl t ↦ rw t (all_fails test xs p (rw other at member) f)
        | inr n ↦ rw n refl
      ]
]

-- a member is asked besides
pub all_one_more : (f g : ℕ → Bool) (p : ℕ) (b : Bool) → ((m : ℕ) → (m ≡ p → ⊥) → f m ≡ g m) → f p ≡ true → g p ≡ b → (members : List ℕ) → is_member members p ≡ true →
    list_all g members ≡ (list_all f members && b)
all_one_more f g p true same before after members member =
    all_same g f (λ m. elim (cases_eq m p) [
      | inl here ↦ ap g here ∙ after ∙ sym (ap f here ∙ before)
      | inr other ↦ sym (same m other)
    ]) members
    ∙ sym (and-true (list_all f members))
all_one_more f g p false same before after members member = all_fails g members p member after ∙ sym (and-false (list_all f members))

-- a canonical set has each member once
abbrev Above : ℕ → List ℕ → Type 0
Above m [] = ⊤
Above m (x ∷ xs) = (m < x) × Above m xs

abbrev Rises : List ℕ → Type 0
Rises [] = ⊤
Rises (x ∷ xs) = Above x xs × Rises xs

above_less : (k m : ℕ) (xs : List ℕ) → k < m → Above m xs → Above k xs
above_less k m [] low above = tt
above_less k m (x ∷ xs) low above = let first = above.0 in (omega (arith, low, first), above_less k m xs low above.1)

above_with : (k m : ℕ) (xs : List ℕ) → k < m → Above k xs → Above k (with_member m xs)
above_with k m [] low above = (low, tt)
above_with k m (x ∷ xs) low above =
    cond_both (nat_lt m x) (m ∷ (x ∷ xs)) (cond (m == x) (x ∷ xs) (x ∷ with_member m xs)) (Above k) (λ t. (low, above)) (λ f.
    cond_both (m == x) (x ∷ xs) (x ∷ with_member m xs) (Above k) (λ t. above) (λ g. (above.0, above_with k m xs low above.1)))

rises_with : (m : ℕ) (xs : List ℕ) → Rises xs → Rises (with_member m xs)
rises_with m [] rises = (tt, tt)
rises_with m (x ∷ xs) rises =
    cond_both (nat_lt m x) (m ∷ (x ∷ xs)) (cond (m == x) (x ∷ xs) (x ∷ with_member m xs)) Rises
    (λ t. let low = ltb-true m x t in ((low, above_less m x xs low rises.0), rises))
    (λ f. cond_both (m == x) (x ∷ xs) (x ∷ with_member m xs) Rises (λ t. rises) (λ g.
    let le = ltb-false m x f in
    let ne = eqb-false m x g in
    let low : x < m = omega (arith, le, ne) in
    (above_with x m xs low rises.0, rises_with m xs rises.1)))

set_rises : (xs : List ℕ) → Rises (set_of xs)
set_rises [] = tt
set_rises (x ∷ xs) = rises_with x (set_of xs) (set_rises xs)

not_above : (m : ℕ) (xs : List ℕ) → Above m xs → is_member xs m ≡ false
not_above m [] above = refl
not_above m (x ∷ xs) above = let low = above.0 in rw (ne_eqb x m (λ e. omega (arith, e, low))) (not_above m xs above.1)

rises_distinct : (xs : List ℕ) → Rises xs → AreDistinct xs
rises_distinct [] rises = tt
rises_distinct (x ∷ xs) rises = (not_above x xs rises.0, rises_distinct xs rises.1)

pub canonical_distinct : (xs : List ℕ) → set_of xs ≡ xs → AreDistinct xs
canonical_distinct xs same = subst AreDistinct same (rises_distinct (set_of xs) (set_rises xs))

-- none of them is missing where all are there
pub none_missing : (a b n : ℕ) → a + b ≡ n → (a == 0) ≡ (b == n)
none_missing a b n sum = elim (cases_eq a 0) [
  | inl none ↦ eq-eqb a 0 none ∙ sym (eq-eqb b n (omega (arith, sum, none)))
  | inr some ↦ ne_eqb a 0 some ∙ sym (ne_eqb b n (λ e. omega (arith, sum, some, e)))
]
