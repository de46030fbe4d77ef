-- The groups part the places, and labels have one list of groups.
use Rattle.std.proofs.Common.{◌≡◌, ◌∙◌, ℕ, zero, suc, ◌<◌, Bool, true, List, [], ◌∷◌, Some, length, get_or, refl, sym, ap, subst, inl, inr, arith}
use Rattle.std.specs.Prelude.{slice_get}
use Rattle.std.specs.Cmp.{IsEquivalence, IsTotalOrder}
use Rattle.std.specs.List.{Contains, position_or_len}
use Rattle.std.specs.List.Sorted.{IsStrictlySortedBy}
use Rattle.std.specs.declared.cmp.Ordering.{Ordering}
use Rattle.std.specs.declared.cmp.Ordering.TheVariants.{Less, Greater}
use Rattle.std.specs.Ordering.{ordering_reverse}
use Rattle.std.proofs.lemmas.Bool.{cases_lt}
use Rattle.std.proofs.lemmas.Cmp.{tied_itself}
use Rattle.std.proofs.lemmas.List.Elements.{All-contains, All-from_recursion}
use Rattle.std.proofs.lemmas.List.Sums.{passes_at_first, fails_before_first}
use Rattle.std.proofs.lemmas.Map.Keys.{sorted_head, sorted_tail, Less-from_sorted}
use Rattle.std.proofs.lemmas.Map.Views.{list_any-from_Contains}
use Rattle.std.proofs.lemmas.Option.{slice_get_within, slice_get-get_or, get_or_from_slice_get}
use Rattle.wire_report.specs.declared.tally.Group.{Group}
use Rattle.wire_report.specs.Groups.{AreGroups, IsOfLabel, group_of}
use Rattle.wire_report.specs.GroupLaws.{HasLabel, HasOneGroup, GroupsPart, OneListOfGroups}
use Rattle.wire_report.proofs.Noted.{within}
use Rattle.wire_report.proofs.GroupOrder.{total}
use Rattle.wire_report.proofs.Parted.{one_group}

module _ {X : Type 0} {c : X → X → Ordering} (o : IsTotalOrder c) where
  not_itself : (x : X) → c x x ≡ Less → ⊥
  not_itself x less = let tied = tied_itself o x in cc

  below_others : (x z : X) (xs : List X) → IsStrictlySortedBy c (x ∷ xs) → Contains xs z → c x z ≡ Less
  below_others x z xs sorted there = All-contains (λ y. c x y ≡ Less) xs z (All-from_recursion (λ y. c x y ≡ Less) xs (sorted_head c x xs sorted)) there

  one_first : (x y : X) (xs ys : List X) → IsStrictlySortedBy c (x ∷ xs) → IsStrictlySortedBy c (y ∷ ys) → Contains (y ∷ ys) x → Contains (x ∷ xs) y → x ≡ y
  one_first x y xs ys s t (zero, l, e) there = sym e
  one_first x y xs ys s t (suc k, l, e) (zero, m, f) = f
  one_first x y xs ys s t (suc k, l, e) (suc n, m, f) =
      let up : c x y ≡ Less = below_others x y xs s (n, omega (arith, m), f) in
      let down : c y x ≡ Less = below_others y x ys t (k, omega (arith, l), e) in
      let turned : c x y ≡ Greater = o.antisymm x y ∙ ap ordering_reverse down in
      cc

  other_there : (x y z : X) (xs ys : List X) → x ≡ y → IsStrictlySortedBy c (x ∷ xs) → Contains xs z → Contains (y ∷ ys) z → Contains ys z
  other_there x y z xs ys same s there (zero, l, e) =
      absurd (not_itself x (subst (λ v. c x v ≡ Less) (sym (same ∙ e)) (below_others x z xs s there)))
  other_there x y z xs ys same s there (suc k, l, e) = (k, omega (arith, l), e)

  -- two lists that rise and have the same elements are one
  one_list : (xs ys : List X) → IsStrictlySortedBy c xs → IsStrictlySortedBy c ys → ((z : X) → Contains xs z → Contains ys z) → ((z : X) → Contains ys z → Contains xs z) → xs ≡ ys
  one_list [] [] s t there back = refl
  one_list [] (y ∷ ys) s t there back = absurd (let found = back y (0, omega arith, refl) in omega (arith, found.1))
  one_list (x ∷ xs) [] s t there back = absurd (let found = there x (0, omega arith, refl) in omega (arith, found.1))
  one_list (x ∷ xs) (y ∷ ys) s t there back =
      let first : x ≡ y = one_first x y xs ys s t (there x (0, omega arith, refl)) (back y (0, omega arith, refl)) in
      let rest : xs ≡ ys = one_list xs ys (sorted_tail c x xs s) (sorted_tail c y ys t)
      (λ z (in' : Contains xs z). other_there x y z xs ys first s in' (there z (suc in'.0, omega (arith, in'.1), in'.2)))
      (λ z (in' : Contains ys z). other_there y x z ys xs (sym first) t in' (back z (suc in'.0, omega (arith, in'.1), in'.2))) in
      λ i. first i ∷ rest i

  one_number : (xs : List X) (m n : ℕ) (x : X) → IsStrictlySortedBy c xs → slice_get xs m ≡ Some x → slice_get xs n ≡ Some x → m ≡ n
  one_number xs m n x sorted there also = elim (cases_lt m n) [
    | inl lt ↦ absurd (not_itself x (at m n lt there also))
    | inr ge ↦ elim (cases_lt n m) [
      | inl gt ↦ absurd (not_itself x (at n m gt also there))
      | inr le ↦ omega (arith, ge, le)
    ]
  ]
    where
      at : (i j : ℕ) → i < j → slice_get xs i ≡ Some x → slice_get xs j ≡ Some x → c x x ≡ Less
      at i j less one other = (λ t. c (sym (get_or_from_slice_get xs i x x one) t) (sym (get_or_from_slice_get xs j x x other) t))
          ∙ Less-from_sorted c xs i j x sorted less (slice_get_within xs j x other)

module _ {K : Type 0} (same : K → K → Bool) where
  there_too : (labels : List K) (groups others : List Group) → AreGroups same labels groups → AreGroups same labels others → (g : Group) → Contains groups g → Contains others g
  there_too labels groups others these those g there =
      let of_label : IsOfLabel same labels g = All-contains (IsOfLabel same labels) groups g these.only there in
      subst (Contains others) (sym of_label.2) (All-contains (λ label. Contains others (group_of same labels label)) labels of_label.0 those.each of_label.1)

  pub one_list_of_groups : OneListOfGroups same
  one_list_of_groups labels groups others these those =
      one_list total groups others these.rising those.rising (there_too labels groups others these those) (there_too labels others groups those these)

  module _ (laws : IsEquivalence same) where
    first_within : (labels : List K) (label : K) → Contains labels label → position_or_len (same label) labels < length labels
    first_within labels label there = within same laws label labels (list_any-from_Contains laws label labels there)

    at_number : {X : Type 0} (xs : List X) (x : X) (there : Contains xs x) → slice_get xs there.0 ≡ Some x
    at_number xs x there = slice_get-get_or xs there.0 x there.1 ∙ ap Some there.2

    is_there : {X : Type 0} (xs : List X) (k : ℕ) (x : X) → slice_get xs k ≡ Some x → Contains xs x
    is_there xs k x at = (k, slice_get_within xs k x at, get_or_from_slice_get xs k x x at)

    of_a_label : (labels : List K) (groups : List Group) → AreGroups same labels groups → (g : Group) → Contains groups g → IsOfLabel same labels g
    of_a_label labels groups are g there = All-contains (IsOfLabel same labels) groups g are.only there

    -- a group whose first place has a label is the group of that label
    only_that : (labels : List K) (label : K) (g : Group) → IsOfLabel same labels g → HasLabel same labels label g → g ≡ group_of same labels label
    only_that labels label g (own, there, is) (x, at, alike) =
        let place : ℕ = position_or_len (same own) labels in
        let at_place : slice_get labels place ≡ Some x = ap (λ (h : Group). slice_get labels h.first) (sym is) ∙ at in
        let has : same own x ≡ true = ap (same own) (sym (get_or_from_slice_get labels place x x at_place)) ∙ passes_at_first (same own) labels x (first_within labels own there) in
        is ∙ one_group same laws labels own label (laws.congr own x label has ∙ laws.symm x label ∙ alike)

    one_of : (labels : List K) (groups : List Group) → AreGroups same labels groups → (k : ℕ) (label : K) → slice_get labels k ≡ Some label → HasOneGroup same labels groups label
    one_of labels groups are k label at =
        let here : Contains labels label = is_there labels k label at in
        let own : Group = group_of same labels label in
        let found : Contains groups own = All-contains (λ l. Contains groups (group_of same labels l)) labels label are.each here in
        let first : position_or_len (same label) labels < length labels = first_within labels label here in
        record {
          number = found.0;
          group = own;
          there = at_number groups own found;
          first = (get_or labels own.first label, slice_get-get_or labels own.first label first, passes_at_first (same label) labels label first);
          none_before = λ j x before there. ap (same label) (sym (get_or_from_slice_get labels j x x there)) ∙ fails_before_first (same label) labels j x before;
          counts = refl;
          only = λ other g there has.
              let is : g ≡ own = only_that labels label g (of_a_label labels groups are g (is_there groups other g there)) has in
              one_number total groups other found.0 own are.rising (there ∙ ap Some is) (at_number groups own found);
        }

    place_of : (labels : List K) (g : Group) → IsOfLabel same labels g → (label : K) × (slice_get labels g.first ≡ Some label)
    place_of labels g (own, there, is) =
        let place : ℕ = position_or_len (same own) labels in
        (get_or labels place own, ap (λ (h : Group). slice_get labels h.first) is ∙ slice_get-get_or labels place own (first_within labels own there))

    pub groups_part : GroupsPart same
    groups_part labels groups are = record {
      one = one_of labels groups are;
      has_place = λ number g at. place_of labels g (of_a_label labels groups are g (is_there groups number g at));
    }
