-- The groups that were counted, in order, are the groups of the labels.
use Rattle.std.proofs.Common.{◌≡◌, ◌∙◌, ℕ, suc, ◌+◌, ◌<◌, Bool, true, false, ◌||◌, eqb, List, [], ◌∷◌, map, fold, length, get_or, refl, sym, ap, inl, inr, arith, true≢false}
use Rattle.std.specs.Cmp.{IsEquivalence, both_ways}
use Rattle.std.specs.Prelude.{IsSorted, IsPermutation, sum_by}
use Rattle.std.specs.List.{All, AllByRecursion, Contains, IsDistinct, list_any, position_or_len, count_by}
use Rattle.std.specs.List.Sorted.{IsStrictlySortedBy}
use Rattle.std.specs.declared.cmp.Ordering.{Ordering}
use Rattle.std.specs.declared.cmp.Ordering.TheVariants.{Less, Equal, Greater}
use Rattle.std.specs.Ordering.{is_lt, nat_cmp, ordering_then, ordering_reverse}
use Rattle.std.proofs.lemmas.Bool.{cases_Bool, cases_eq, eqb-true, eq-eqb, or_parts}
use Rattle.std.proofs.lemmas.Cmp.{ranked}
use Rattle.std.proofs.lemmas.List.Elements.{All-tail, All-head, All-nil, All-map, All-contains_itself, All-weaker, All-push}
use Rattle.std.proofs.lemmas.List.Sorted.{All-permutation, Contains-permutation}
use Rattle.std.proofs.lemmas.List.Sums.{passes_at_first}
use Rattle.std.proofs.lemmas.Map.Views.{list_any-from_Contains}
use Rattle.std.proofs.lemmas.Map.Keys.{IsDistinct-IsPermutation, apart_from_distinct, sorted_from_all_adjacent}
use Rattle.indexmap.specs.IndexSet.{insert_key}
use Rattle.wire_report.specs.declared.tally.Group.{Group}
use Rattle.wire_report.specs.Groups.{AreGroups, IsOfLabel, group_of, group_cmp}
use Rattle.wire_report.specs.Tally.{distinct}
use Rattle.wire_report.proofs.Distinct.{AreApart, AreAmong, any_distinct, distinct_apart, distinct_among}
use Rattle.wire_report.proofs.Noted.{within}
use Rattle.wire_report.proofs.GroupOrder.{total}

-- two groups begin at the same place
abbrev begin_alike : Group → Group → Bool
begin_alike g h = eqb g.first h.first

module _ {K : Type 0} (same : K → K → Bool) (laws : IsEquivalence same) (labels : List K) where
  -- two labels that are the same have one group
  pub one_group : (x y : K) → same x y ≡ true → group_of same labels x ≡ group_of same labels y
  one_group x y alike = ap (λ (test : K → Bool). record { first = position_or_len test labels; count = count_by test labels }) (λ i z. laws.congr x y z alike i)

  among_groups : (ks : List K) (x : K) → list_any (same x) ks ≡ true → Contains (map (group_of same labels) ks) (group_of same labels x)
  among_groups [] x any = absurd (true≢false (sym any))
  among_groups (k ∷ ks) x any = elim (cases_Bool (same x k)) [
    | inl t ↦ (0, omega arith, sym (one_group x k t))
    | inr f ↦ let later = among_groups ks x (sym (ap (λ b. b || list_any (same x) ks) f) ∙ any) in (suc later.0, omega (arith, later.1), later.2)
  ]

  each_group : All (λ label. Contains (map (group_of same labels) (distinct same labels)) (group_of same labels label)) labels
  each_group = All-weaker (Contains labels) _
      (λ x there. among_groups (distinct same labels) x (any_distinct same laws labels x ∙ list_any-from_Contains laws x labels there)) labels (All-contains_itself labels)

  only_added : (P : K → Type 0) (ks acc : List K) → All P acc → All P ks → All P (fold (insert_key same) acc ks)
  only_added P [] acc so_far all = so_far
  only_added P (k ∷ ks) acc so_far all = only_added P ks (insert_key same acc k) one_more (All-tail P k ks all)
    where
      one_more : All P (insert_key same acc k)
      one_more = elim (cases_Bool (list_any (same k) acc)) [
        | inl t ↦ rw t so_far
        | inr f ↦ rw f (All-push P acc k so_far (All-head P k ks all))
      ]

  only_groups : All (IsOfLabel same labels) (map (group_of same labels) (distinct same labels))
  only_groups = All-map (IsOfLabel same labels) (group_of same labels) (distinct same labels)
      (All-weaker (Contains labels) (λ k. IsOfLabel same labels (group_of same labels k)) (λ x there. (x, there, refl)) (distinct same labels)
      (only_added (Contains labels) labels [] (All-nil (Contains labels)) (All-contains_itself labels)))

  other_place : (k x : K) → same k x ≡ false → list_any (same k) labels ≡ true → list_any (same x) labels ≡ true → begin_alike (group_of same labels k) (group_of same labels x) ≡ false
  other_place k x apart there also = elim (cases_eq (position_or_len (same k) labels) (position_or_len (same x) labels)) [
    | inl e ↦
        let one = passes_at_first (same k) labels k (within same laws k labels there) in
        let other = ap (λ n. same x (get_or labels n k)) e ∙ passes_at_first (same x) labels k (within same laws x labels also) in
        let here : K = get_or labels (position_or_len (same k) labels) k in
        absurd (true≢false (sym (laws.congr k here x one ∙ laws.symm here x ∙ other) ∙ apart))
    | inr ne ↦ differ (position_or_len (same k) labels) (position_or_len (same x) labels) ne
  ]
    where
      differ : (m n : ℕ) → (m ≡ n → ⊥) → eqb m n ≡ false
      differ m n ne = elim (cases_Bool (eqb m n)) [
        | inl t ↦ absurd (ne (eqb-true m n t))
        | inr f ↦ f
      ]

  apart_from : (k : K) → list_any (same k) labels ≡ true → (ks : List K) → list_any (same k) ks ≡ false → AreAmong same labels ks →
      AllByRecursion (λ h. begin_alike (group_of same labels k) h ≡ false) (map (group_of same labels) ks)
  apart_from k there [] none all = tt
  apart_from k there (x ∷ ks) none (first, rest) =
      let parts = or_parts (same k x) (list_any (same k) ks) none in
      (other_place k x parts.0 there first, apart_from k there ks parts.1 rest)

  apart_groups : (ks : List K) → AreApart same ks → AreAmong same labels ks → IsDistinct begin_alike (map (group_of same labels) ks)
  unfolding IsDistinct
  apart_groups [] apart among = tt
  apart_groups (k ∷ ks) (first, rest) (there, others) = (apart_from k there ks first others, apart_groups ks rest others)

-- in a list that is sorted, and of which no two begin at the same place, each group is below the next
rising_groups : (gs : List Group) → IsSorted group_cmp gs → IsDistinct begin_alike gs → IsStrictlySortedBy group_cmp gs
rising_groups gs sorted apart = sorted_from_all_adjacent total gs nothing next
  where
    nothing : Group
    nothing = record { first = 0; count = 0 }

    second_equal : (a b : Ordering) → ordering_then a b ≡ Equal → b ≡ Equal
    second_equal Equal b e = e
    second_equal Less b e = cc
    second_equal Greater b e = cc

    below : (g h : Group) → is_lt (group_cmp h g) ≡ false → begin_alike g h ≡ false → group_cmp g h ≡ Less
    below g h up other = go (group_cmp g h) refl
      where
        go : (o : Ordering) → group_cmp g h ≡ o → group_cmp g h ≡ Less
        go Less e = e
        go Equal e =
            let one = ranked g.first h.first Equal (sym (second_equal (nat_cmp h.count g.count) (nat_cmp g.first h.first) e)) in
            absurd (true≢false (sym (eq-eqb g.first h.first one) ∙ other))
        go Greater e = absurd (true≢false (sym (ap is_lt (total.antisymm h g ∙ ap ordering_reverse e)) ∙ up))

    next : (k : ℕ) → k + 1 < length gs → group_cmp (get_or gs k nothing) (get_or gs (k + 1) nothing) ≡ Less
    next k less = below (get_or gs k nothing) (get_or gs (k + 1) nothing) (sorted k nothing (omega arith) less) (apart_from_distinct begin_alike gs k (k + 1) nothing apart (omega arith) less)

module _ {K : Type 0} (same : K → K → Bool) (laws : IsEquivalence same) (labels : List K) where
  pub parted : (groups : List Group) → IsPermutation (map (group_of same labels) (distinct same labels)) groups → IsSorted group_cmp groups →
      sum_by (λ (g : Group). g.count) groups ≡ length labels → AreGroups same labels groups
  parted groups those sorted whole =
      let counted : List Group = map (group_of same labels) (distinct same labels) in
      record {
        each = All-weaker _ _ (λ x there. Contains-permutation counted groups (group_of same labels x) those there) labels (each_group same laws labels);
        only = All-permutation (IsOfLabel same labels) counted groups those (only_groups same laws labels);
        rising = rising_groups groups sorted (IsDistinct-IsPermutation begin_alike (λ g h. flips g.first h.first) counted groups those
            (apart_groups same laws labels (distinct same labels) (distinct_apart same laws labels) (distinct_among same laws labels)));
        whole = whole;
      }
    where
      flips : (m n : ℕ) → eqb m n ≡ eqb n m
      flips m n = both_ways (eqb m n) (eqb n m) (λ t. eq-eqb n m (sym (eqb-true m n t))) (λ t. eq-eqb m n (sym (eqb-true n m t)))
