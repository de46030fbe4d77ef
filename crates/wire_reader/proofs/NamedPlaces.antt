-- The numbers of the processes that are named, in order, each once, are the places that pass the test.
use Rattle.std.proofs.Common.{◌≡◌, ◌∙◌, ◌↔◌, ◌⊎◌, inl, inr, ap, sym, subst, refl, ℕ, zero, suc, ◌+◌, ◌<◌, ◌≤◌, List, [], ◌∷◌, ◌++◌, Bool, true, false, length, take, get_or, arith, nat_cmp, ◌-◌, if◌then◌else◌}
use Rattle.std.specs.Prelude.{◌||◌, ⊤, eqb, slice_index, IsPermutation}
use Rattle.std.specs.List.{Contains, dedup}
use Rattle.std.specs.List.Sorted.{IsStrictlyIncreasing, IsSorted}
use Rattle.std.proofs.lemmas.List.Kept.{Contains-dedup_nat, Contains-from_dedup}
use Rattle.std.proofs.lemmas.List.Sorted.{Contains-permutation, IsPermutation-sym}
use Rattle.std.proofs.lemmas.Map.Keys.{IsStrictlyIncreasing-dedup}
use Rattle.std.proofs.lemmas.Bool.{cases_lt, or_cases, or_left, or_right, true≢false}
use Rattle.std.proofs.lemmas.List.{take_all, take_more}
use Rattle.std.proofs.lemmas.List.Elements.{Contains-push, Contains-push_cases, Contains-append_left}
use Rattle.std.proofs.lemmas.List.Folds.{list_any-append}
use Rattle.std.proofs.Math.Bool.{or-false}
use Rattle.wire_reader.specs.FirstPass.{Started, Declared}
use Rattle.wire_reader.specs.Reads.{places_from}
use Rattle.wire_reader.specs.Targets.{is_target, is_any_target, passes_at, IsRangeOf, AddsRange, AreTargetNumbers, named_in}
use Rattle.wire_reader.specs.declared.members.Target.{Target}

none_contained : (k : ℕ) → Contains {X = ℕ} [] k → ⊥
none_contained k h = let lt = h.1 in omega (arith, lt)

head_contained : (x k : ℕ) (xs : List ℕ) → x ≡ k → Contains (x ∷ xs) k
head_contained x k xs e = (zero, omega arith, e)

tail_contained : (x k : ℕ) (xs : List ℕ) → Contains xs k → Contains (x ∷ xs) k
tail_contained x k xs (i, lt, at) = (suc i, omega (arith, lt), at)

contained_cases : (x k : ℕ) (xs : List ℕ) → Contains (x ∷ xs) k → (x ≡ k) ⊎ Contains xs k
contained_cases x k xs (zero, lt, at) = inl at
contained_cases x k xs (suc i, lt, at) = inr (i, omega (arith, lt), at)

-- each is above the one before it, the first at least n
abbrev RisesFrom : ℕ → List ℕ → Type 0
RisesFrom n [] = ⊤
RisesFrom n (x ∷ xs) = (n ≤ x) × RisesFrom (x + 1) xs

none_more : (n : ℕ) → n ≡ n + 0
none_more n = omega arith

one_more : (k : ℕ) → suc k + 1 ≡ suc (k + 1)
one_more k = omega arith

rises_behind : (x : ℕ) (xs : List ℕ) → IsStrictlyIncreasing (x ∷ xs) → RisesFrom (x + 1) xs
rises_behind x [] h = tt
rises_behind x (y ∷ ys) h = (let low = h zero (omega arith) in omega (arith, low), rises_behind y ys (λ k lt. subst (λ m. slice_index (y ∷ ys) k < slice_index (x ∷ y ∷ ys) m) (one_more k) (h (suc k) (omega (arith, lt)))))

rises : (xs : List ℕ) → IsStrictlyIncreasing xs → RisesFrom 0 xs
rises [] h = tt
rises (x ∷ xs) h = (omega arith, rises_behind x xs h)

least : (n : ℕ) (xs : List ℕ) (k : ℕ) → RisesFrom n xs → Contains xs k → n ≤ k
least n [] k r h = absurd (none_contained k h)
least n (x ∷ xs) k r h =
    let low = r.0 in
    elim (contained_cases x k xs h) [
      | inl e ↦ omega (arith, low, e)
      | inr later ↦ let rest = least (x + 1) xs k r.1 later in omega (arith, low, rest)
    ]

rises_on : (n : ℕ) (xs : List ℕ) → RisesFrom n xs → (Contains xs n → ⊥) → RisesFrom (n + 1) xs
rises_on n [] r none = tt
rises_on n (x ∷ xs) r none = (let low = r.0 in let apart : (x ≡ n → ⊥) = λ e. none (head_contained x n xs e) in omega (arith, low, apart), r.1)

module _ (f : Started → Bool) where
  -- what holds just the numbers of those that pass, the first of them n
  abbrev HoldsFrom : ℕ → List Started → List ℕ → Type 0
  HoldsFrom n ps xs = (i : ℕ) → Contains xs (n + i) ↔ (passes_at f ps i ≡ true)

  nobody : (n : ℕ) (xs : List ℕ) → RisesFrom n xs → HoldsFrom n [] xs → xs ≡ []
  nobody n [] r h = refl
  nobody n (x ∷ xs) r h =
      let low = r.0 in
      let at : x ≡ n + (x - n) = omega (arith, low) in
      absurd (true≢false (sym ((h (x - n)).0 (head_contained x (n + (x - n)) xs at))))

  passed : (n : ℕ) (p : Started) (ps : List Started) (xs : List ℕ) → HoldsFrom n (p ∷ ps) xs → HoldsFrom (n + 1) ps xs
  passed n p ps xs h i = let next : n + suc i ≡ n + 1 + i = omega arith in subst (λ k. Contains xs k ↔ (passes_at f ps i ≡ true)) next (h (suc i))

  -- the rest behind the first number
  behind : (n x : ℕ) (ps : List Started) (xs : List ℕ) → x ≡ n → HoldsFrom (n + 1) ps (x ∷ xs) → HoldsFrom (n + 1) ps xs
  behind n x ps xs e h i = (
    (λ c. (h i).0 (tail_contained x (n + 1 + i) xs c)),
    (λ t. elim (contained_cases x (n + 1 + i) xs ((h i).1 t)) [
      | inl same ↦ absurd (omega (arith, same, e))
      | inr later ↦ later
    ]),
  )

  pub same_places : (n : ℕ) (ps : List Started) (xs : List ℕ) → RisesFrom n xs → HoldsFrom n ps xs → xs ≡ places_from f n ps
  same_places n [] xs r h = nobody n xs r h
  same_places n (p ∷ ps) xs r h = go (f p) refl xs r h (same_places (n + 1) ps)
    where
      go : (t : Bool) → f p ≡ t → (xs : List ℕ) → RisesFrom n xs → HoldsFrom n (p ∷ ps) xs → ((ys : List ℕ) → RisesFrom (n + 1) ys → HoldsFrom (n + 1) ps ys → ys ≡ places_from f (n + 1) ps)
          → xs ≡ (if t then n ∷ places_from f (n + 1) ps else places_from f (n + 1) ps)
      go false e xs r h rest =
          rest xs (rises_on n xs r (λ c. true≢false (sym ((h zero).0 (subst (Contains xs) (none_more n) c)) ∙ e))) (passed n p ps xs h)
      go true e [] r h rest = absurd (none_contained (n + 0) ((h zero).1 e))
      go true e (x ∷ xs) r h rest =
          let low = r.0 in
          let here : x ≡ n = elim (contained_cases x (n + 0) xs ((h zero).1 e)) [
            | inl same ↦ omega (arith, same)
            | inr later ↦ let high = least (x + 1) xs (n + 0) r.1 later in absurd (omega (arith, low, high))
          ] in
          let from : RisesFrom (n + 1) xs = subst (λ m. RisesFrom (m + 1) xs) here r.1 in
          ap (λ m. m ∷ xs) here ∙ ap (λ l. n ∷ l) (rest xs from (behind n x ps xs here (passed n p ps (x ∷ xs) h)))

-- the numbers of what is named, in order, each once
pub named_once : (d : Declared) (ts : List Target) (xs : List ℕ) → IsStrictlyIncreasing xs → AreTargetNumbers d ts xs → xs ≡ named_in d ts
named_once d ts xs up named = same_places (is_any_target ts) 0 d.processes xs (rises xs up) (λ i. let zero_plus : 0 + i ≡ i = omega arith in rw zero_plus (named i))

-- after a sort and a dedup
pub sorted_named : (d : Declared) (ts : List Target) (xs sorted once : List ℕ) → AreTargetNumbers d ts xs → IsPermutation xs sorted → IsSorted nat_cmp sorted → once ≡ dedup eqb sorted → once ≡ named_in d ts
sorted_named d ts xs sorted once named moved up is =
    is ∙ named_once d ts (dedup eqb sorted) (IsStrictlyIncreasing-dedup sorted up) (λ k. (
      (λ h. (named k).0 (Contains-permutation sorted xs k (IsPermutation-sym xs sorted moved) (Contains-from_dedup eqb sorted k h))),
      (λ t. Contains-dedup_nat sorted k (Contains-permutation xs sorted k moved ((named k).1 t))),
    ))

-- nothing is named
pub none_named : (d : Declared) → AreTargetNumbers d [] []
none_named d k = ((λ h. absurd (none_contained k h)), (λ t. absurd (true≢false (sym t ∙ none_passes d.processes k))))
  where
    none_passes : (ps : List Started) (k : ℕ) → passes_at (is_any_target []) ps k ≡ false
    none_passes [] k = refl
    none_passes (p ∷ ps) zero = refl
    none_passes (p ∷ ps) (suc k) = none_passes ps k

-- a target more
passes_push : (ts : List Target) (t : Target) (ps : List Started) (k : ℕ) → passes_at (is_any_target (ts ++ t ∷ [])) ps k ≡ (passes_at (is_any_target ts) ps k || passes_at (is_target t) ps k)
passes_push ts t [] k = refl
passes_push ts t (p ∷ ps) zero = list_any-append (λ u. is_target u p) ts (t ∷ []) ∙ ap (λ b. is_any_target ts p || b) (or-false (is_target t p))
passes_push ts t (p ∷ ps) (suc k) = passes_push ts t ps k

named_push : (d : Declared) (ts : List Target) (t : Target) (first past : ℕ) (old new : List ℕ) → IsRangeOf d t first past → AddsRange first past old new → AreTargetNumbers d ts old → AreTargetNumbers d (ts ++ t ∷ []) new
named_push d ts t first past old new range adds named k =
    let all = passes_push ts t d.processes k in
    let a = passes_at (is_any_target ts) d.processes k in
    let b = passes_at (is_target t) d.processes k in (
      (λ h. all ∙ elim ((adds k).0 h) [
        | inl was ↦ or_left a b ((named k).0 was)
        | inr among ↦ or_right a b ((range k).0 among)
      ]),
      (λ t. (adds k).1 (elim (or_cases a b (sym all ∙ t)) [
        | inl was ↦ inl ((named k).1 was)
        | inr among ↦ inr ((range k).1 among)
      ])),
    )

pub named_next : (d : Declared) (ts : List Target) (i : ℕ) (t : Target) (first past : ℕ) (old new : List ℕ) → i < length ts → IsRangeOf d (get_or ts i t) first past → AddsRange first past old new
    → AreTargetNumbers d (take i ts) old → AreTargetNumbers d (take (i + 1) ts) new
named_next d ts i t first past old new lt range adds named =
    subst (λ l. AreTargetNumbers d l new) (sym (take_more ts i t lt)) (named_push d (take i ts) (get_or ts i t) first past old new range adds named)

pub named_all : (d : Declared) (ts : List Target) (i : ℕ) (xs : List ℕ) → length ts ≤ i → AreTargetNumbers d (take i ts) xs → AreTargetNumbers d ts xs
named_all d ts i xs le named = subst (λ l. AreTargetNumbers d l xs) (take_all i ts le) named

-- a number more
pub range_none : (first past : ℕ) (old : List ℕ) → past ≤ first → AddsRange first past old old
range_none first past old le k = ((λ h. inl h), (λ h. elim h [ inl was ↦ was | inr among ↦ let low = among.0 in let high = among.1 in absurd (omega (arith, low, high)) ]))

-- all of them
pub range_all : (first n past : ℕ) (old new : List ℕ) → past ≤ n → (first ≤ past → n ≤ past) → (past ≤ first → n ≡ first) → AddsRange first n old new → AddsRange first past old new
range_all first n past old new over within none adds k = (
  (λ h. elim ((adds k).0 h) [ inl was ↦ inl was | inr among ↦ inr (among.0, below among.0 among.1) ]),
  (λ h. (adds k).1 (elim h [ inl was ↦ inl was | inr among ↦ let high = among.1 in inr (among.0, omega (arith, high, over)) ])),
)
  where
    below : first ≤ k → k < n → k < past
    below from to = elim (cases_lt first past) [
      | inl some ↦ let most = within (omega (arith, some)) in omega (arith, most, to)
      | inr nothing ↦ let same = none nothing in absurd (omega (arith, same, from, to))
    ]

pub range_push : (first n : ℕ) (old now : List ℕ) → first ≤ n → AddsRange first n old now → AddsRange first (n + 1) old (now ++ n ∷ [])
range_push first n old now le adds k = (
  (λ h. elim (Contains-push_cases now n k h) [
    | inl was ↦ elim ((adds k).0 was) [ inl before ↦ inl before | inr among ↦ let high = among.1 in inr (among.0, omega (arith, high)) ]
    | inr e ↦ inr (omega (arith, e, le), omega (arith, e))
  ]),
  (λ h. elim h [
    | inl before ↦ Contains-append_left now (n ∷ []) k ((adds k).1 (inl before))
    | inr among ↦ last k among
  ]),
)
  where
    last : (k : ℕ) → (first ≤ k) × (k < n + 1) → Contains (now ++ n ∷ []) k
    last k among = elim (cases_lt k n) [
      | inl low ↦ Contains-append_left now (n ∷ []) k ((adds k).1 (inr (among.0, low)))
      | inr high ↦ let most = among.1 in let e : n ≡ k = omega (arith, high, most) in subst (Contains (now ++ n ∷ [])) e (Contains-push now n)
    ]
