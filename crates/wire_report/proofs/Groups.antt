-- The groups of labels, and of one label more.
use Rattle.std.proofs.Common.{◌≡◌, ◌∙◌, ℕ, suc, ◌+◌, Bool, true, false, not, cond, ◌||◌, List, [], ◌∷◌, ◌++◌, map, length, get_or, refl, sym, ap, arith, true≢false}
use Rattle.std.proofs.Common.{inl, inr}
use Rattle.std.specs.Prelude.{count_by}
use Rattle.std.specs.Cmp.{IsEquivalence}
use Rattle.std.specs.List.{list_any, position_or_len}
use Rattle.std.proofs.Math.ListN.{set}
use Rattle.std.proofs.lemmas.Bool.{cases_Bool, or_parts}
use Rattle.std.proofs.lemmas.List.{map-append}
use Rattle.std.proofs.lemmas.List.Sums.{sum_by-append, sum_by-cons}
use Rattle.wire_report.specs.declared.tally.Group.{Group}
use Rattle.wire_report.specs.Groups.{group_of}
use Rattle.wire_report.proofs.Distinct.{AreApart, AreAmong}

abbrev pub more : Group → Group
more g = record { first = g.first; count = g.count + 1 }

module _ {K : Type 0} where
  position_push : (test : K → Bool) (xs : List K) (x : K) → list_any test xs ≡ true → position_or_len test (xs ++ x ∷ []) ≡ position_or_len test xs
  position_push test [] x any = absurd (true≢false (sym any))
  position_push test (y ∷ ys) x any = elim (cases_Bool (test y)) [
    | inl t ↦ (λ i. cond (not (t i)) (1 + position_or_len test (ys ++ x ∷ [])) 0) ∙ sym (ap (λ b. cond (not b) (1 + position_or_len test ys) 0) t)
    | inr f ↦
        let left : list_any test ys ≡ true = sym (ap (λ b. b || list_any test ys) f) ∙ any in
        (λ i. cond (not (f i)) (1 + position_push test ys x left i) 0) ∙ sym (ap (λ b. cond (not b) (1 + position_or_len test ys) 0) f)
  ]

  position_none : (test : K → Bool) (xs : List K) (x : K) → list_any test xs ≡ false → test x ≡ true → position_or_len test (xs ++ x ∷ []) ≡ length xs
  position_none test [] x none is = rw is refl
  position_none test (y ∷ ys) x none is = elim (cases_Bool (test y)) [
    | inl t ↦ absurd (true≢false (sym (ap (λ b. b || list_any test ys) t) ∙ none))
    | inr f ↦
        let left : list_any test ys ≡ false = sym (ap (λ b. b || list_any test ys) f) ∙ none in
        ap (λ b. cond (not b) (1 + position_or_len test (ys ++ x ∷ [])) 0) f ∙ ap (λ n. 1 + n) (position_none test ys x left is) ∙ one_more (length ys)
  ]
    where
      one_more : (n : ℕ) → 1 + n ≡ suc n
      one_more n = omega arith

  count_push : (test : K → Bool) (xs : List K) (x : K) → count_by test (xs ++ x ∷ []) ≡ count_by test xs + cond (test x) 1 0
  count_push test xs x = sum_by-append (λ k. cond (test k) 1 0) xs (x ∷ []) ∙ ap (λ n. count_by test xs + n) (plus_none (cond (test x) 1 0))
    where
      plus_none : (n : ℕ) → 0 + n ≡ n
      plus_none n = omega arith

  count_none : (test : K → Bool) (xs : List K) → list_any test xs ≡ false → count_by test xs ≡ 0
  count_none test [] none = refl
  count_none test (y ∷ ys) none = elim (cases_Bool (test y)) [
    | inl t ↦ absurd (true≢false (sym (ap (λ b. b || list_any test ys) t) ∙ none))
    | inr f ↦
        let left : list_any test ys ≡ false = sym (ap (λ b. b || list_any test ys) f) ∙ none in
        sum_by-cons (λ k. cond (test k) 1 0) y ys ∙ (λ i. cond {A = ℕ} (f i) 1 0 + count_none test ys left i) ∙ zeros
  ]
    where
      zeros : 0 + 0 ≡ 0
      zeros = omega arith

module _ {K : Type 0} (same : K → K → Bool) (laws : IsEquivalence same) (labels : List K) (x : K) where
  abbrev after : List K
  after = labels ++ x ∷ []

  -- the group of another label stays
  group_of_other : (k : K) → same k x ≡ false → list_any (same k) labels ≡ true → group_of same labels k ≡ group_of same after k
  group_of_other k other there =
      let count : count_by (same k) labels ≡ count_by (same k) after =
      sym (count_push (same k) labels x ∙ ap (λ b. count_by (same k) labels + cond b 1 0) other ∙ plus_none (count_by (same k) labels)) in
      λ i. record { first = sym (position_push (same k) labels x there) i; count = count i }
    where
      plus_none : (n : ℕ) → n + 0 ≡ n
      plus_none n = omega arith

  -- that of its own has one more
  group_of_own : (k : K) → same k x ≡ true → list_any (same k) labels ≡ true → more (group_of same labels k) ≡ group_of same after k
  group_of_own k own there =
      let count : count_by (same k) labels + 1 ≡ count_by (same k) after = sym (count_push (same k) labels x ∙ ap (λ b. count_by (same k) labels + cond b 1 0) own) in
      λ i. record { first = sym (position_push (same k) labels x there) i; count = count i }

  -- and where there was none, it begins
  pub group_of_new : list_any (same x) labels ≡ false → group_of same after x ≡ record { first = length labels; count = 1 }
  group_of_new none =
      let count : count_by (same x) after ≡ 1 = count_push (same x) labels x ∙ (λ i. count_none (same x) labels none i + cond (laws.refl x i) 1 0) in
      λ i. record { first = position_none (same x) labels x none (laws.refl x) i; count = count i }

  other_groups : (ks : List K) → list_any (same x) ks ≡ false → AreAmong same labels ks → map (group_of same labels) ks ≡ map (group_of same after) ks
  other_groups [] none among = refl
  other_groups (k ∷ ks) none (first, rest) =
      let parts = or_parts (same x k) (list_any (same x) ks) none in
      λ i. group_of_other k (laws.symm k x ∙ parts.0) first i ∷ other_groups ks parts.1 rest i

  pub groups_new : (ks : List K) → list_any (same x) ks ≡ false → AreAmong same labels ks → list_any (same x) labels ≡ false →
      map (group_of same labels) ks ++ record { first = length labels; count = 1 } ∷ [] ≡ map (group_of same after) (ks ++ x ∷ [])
  groups_new ks none among fresh =
      (λ i. other_groups ks none among i ++ sym (group_of_new fresh) i ∷ [])
      ∙ sym (map-append (group_of same after) ks (x ∷ []))

  pub groups_again : (ks : List K) (g : Group) → list_any (same x) ks ≡ true → AreApart same ks → AreAmong same labels ks →
      g ≡ get_or (map (group_of same labels) ks) (position_or_len (same x) ks) g →
      set (map (group_of same labels) ks) (position_or_len (same x) ks) (more g) ≡ map (group_of same after) ks
  groups_again [] g any apart among is = absurd (true≢false (sym any))
  groups_again (k ∷ ks) g any (apart_first, apart) (among_first, among) is = go (λ left is_left. groups_again ks g left apart among is_left) (same x k) refl
    where
      go : (list_any (same x) ks ≡ true → g ≡ get_or (map (group_of same labels) ks) (position_or_len (same x) ks) g →
          set (map (group_of same labels) ks) (position_or_len (same x) ks) (more g) ≡ map (group_of same after) ks) → (b : Bool) → same x k ≡ b →
          set (map (group_of same labels) (k ∷ ks)) (position_or_len (same x) (k ∷ ks)) (more g) ≡ map (group_of same after) (k ∷ ks)
      go later true e =
          let none : list_any (same x) ks ≡ false = alike ks ∙ apart_first in
          let place : position_or_len (same x) (k ∷ ks) ≡ 0 = ap (λ b. cond (not b) (1 + position_or_len (same x) ks) 0) e in
          let own : g ≡ group_of same labels k = is ∙ ap (λ p. get_or (map (group_of same labels) (k ∷ ks)) p g) place in
          let head : more g ≡ group_of same after k = ap more own ∙ group_of_own k (laws.symm k x ∙ e) among_first in
          ap (λ p. set (map (group_of same labels) (k ∷ ks)) p (more g)) place ∙ (λ i. head i ∷ other_groups ks none among i)
        where
          alike : (others : List K) → list_any (same x) others ≡ list_any (same k) others
          alike [] = refl
          alike (o ∷ others) = λ i. laws.congr x k o e i || alike others i
      go later false e =
          let place : position_or_len (same x) (k ∷ ks) ≡ suc (position_or_len (same x) ks) = ap (λ b. cond (not b) (1 + position_or_len (same x) ks) 0) e ∙ one_more (position_or_len (same x) ks) in
          let left : list_any (same x) ks ≡ true = sym (ap (λ b. b || list_any (same x) ks) e) ∙ any in
          let is_left : g ≡ get_or (map (group_of same labels) ks) (position_or_len (same x) ks) g = is ∙ ap (λ p. get_or (map (group_of same labels) (k ∷ ks)) p g) place in
          ap (λ p. set (map (group_of same labels) (k ∷ ks)) p (more g)) place
          ∙ (λ i. group_of_other k (laws.symm k x ∙ e) among_first i ∷ later left is_left i)
        where
          one_more : (n : ℕ) → 1 + n ≡ suc n
          one_more n = omega arith
