-- What a search by key finds among rows in the order of their keys.
use Rattle.std.proofs.Common.{◌≡◌, ◌∙◌, ap, sym, ℕ, ◌<◌, ◌≤◌, List, length, get_or, Some, None, Result, Ok, Err, arith, inl, inr}
use Rattle.std.specs.Prelude.{slice_get, MatchResult}
use Rattle.std.specs.BTreeMap.{is_at}
use Rattle.std.specs.Cmp.{nat_cmp_total}
use Rattle.std.specs.Map.{lookup, keys_of}
use Rattle.std.specs.List.Sorted.{IsStrictlySortedBy, IsSearchInRange, IsBinarySearchResult, IsNonDecreasingBy}
use Rattle.std.specs.Ordering.{nat_cmp, eq_by_cmp, ordering_index}
use Rattle.std.specs.declared.cmp.Ordering.TheVariants.{Less, Greater}
use Rattle.std.proofs.lemmas.Bool.{cases_eq}
use Rattle.std.proofs.lemmas.Bool.Decides.{nat_tests}
use Rattle.std.proofs.lemmas.Cmp.{eq_by_cmp_equiv, ranked}
use Rattle.std.proofs.lemmas.List.{get_or-map, length-map}
use Rattle.std.proofs.lemmas.Map.Entries.{lookup_from_place, lookup_at_gap}
use Rattle.std.proofs.lemmas.Map.Keys.{IsDistinct-from_sorted, below_from_sorted}
use Rattle.std.proofs.lemmas.Option.{slice_get-get_or, slice_get_within, same_Some}
use Rattle.wire_plan.specs.declared.key_rows.KeyRow.{KeyRow}

-- a lower number compares as less, and a higher one as greater
compares_less : (x y : ℕ) → x < y → nat_cmp x y ≡ Less
compares_less x y lt = grind (arith, nat_tests)

compares_greater : (x y : ℕ) → y < x → nat_cmp x y ≡ Greater
compares_greater x y lt = grind (arith, nat_tests)

index_rises : (x y key : ℕ) → x ≤ y → ordering_index (nat_cmp x key) ≤ ordering_index (nat_cmp y key)
index_rises x y key le = grind (arith, nat_tests)

module _ (rows : List (ℕ × KeyRow)) (sorted : IsStrictlySortedBy nat_cmp (keys_of rows)) (key : ℕ) where
  keys_rise : (i j : ℕ) (d : ℕ × KeyRow) → i < j → j < length rows → (get_or rows i d).0 < (get_or rows j d).0
  keys_rise i j d lt within =
      let f = λ (e : ℕ × KeyRow). e.0 in
      let fits : j < length (keys_of rows) = omega (arith, within, length-map rows f) in
      let below = below_from_sorted (keys_of rows) i j d.0 sorted lt fits in
      let first : get_or (keys_of rows) i d.0 ≡ (get_or rows i d).0 = get_or-map f rows i d d.0 (omega (arith, lt, within)) in
      let second : get_or (keys_of rows) j d.0 ≡ (get_or rows j d).0 = get_or-map f rows j d d.0 within in
      omega (arith, below, first, second)

  comparisons_rise : IsNonDecreasingBy (λ (e : ℕ × KeyRow). ordering_index (nat_cmp e.0 key)) rows
  comparisons_rise i j d le within = index_rises (get_or rows i d).0 (get_or rows j d).0 key (elim (cases_eq i j) [
    | inl same ↦ (let one = ap (λ k. (get_or rows k d).0) same in omega (arith, one))
    | inr other ↦ (let lt = keys_rise i j d (omega (arith, le, other)) within in omega (arith, lt))
  ])

  -- the row at a place that has the key
  row_there : (at : ℕ) (d : ℕ × KeyRow) → at < length rows → (get_or rows at d).0 ≡ key → lookup (is_at (nat_cmp key)) rows ≡ Some (get_or rows at d).1
  row_there at d lt same =
      lookup_from_place {eq = eq_by_cmp nat_cmp} (eq_by_cmp_equiv nat_cmp_total) rows at key (get_or rows at d).1 (IsDistinct-from_sorted nat_cmp (keys_of rows) sorted)
      (slice_get-get_or rows at d lt ∙ ap (λ k. Some (k, (get_or rows at d).1)) same)

  shown_at : (j : ℕ) (e : ℕ × KeyRow) → slice_get rows j ≡ Some e → (get_or rows j e).0 ≡ e.0
  shown_at j e is = ap (λ (x : ℕ × KeyRow). x.0) (same_Some _ _ (sym (slice_get-get_or rows j e (slice_get_within rows j e is)) ∙ is))

  -- none, where lower keys stand in front of the place and higher ones from it on
  none_there : (at : ℕ) → ((j : ℕ) (d : ℕ × KeyRow) → j < at → j < length rows → (get_or rows j d).0 < key) →
      ((j : ℕ) (d : ℕ × KeyRow) → at ≤ j → j < length rows → key < (get_or rows j d).0) → lookup (is_at (nat_cmp key)) rows ≡ None
  none_there at lower higher = lookup_at_gap nat_cmp_total key rows at sorted
      (λ j e lt is. let low = lower j e lt (slice_get_within rows j e is) in let same = shown_at j e is in compares_greater key e.0 (omega (arith, low, same)))
      (λ e is. let high = higher at e (omega arith) (slice_get_within rows at e is) in let same = shown_at at e is in compares_less key e.0 (omega (arith, high, same)))

  -- a search by key ends at its row, or where none is
  pub searched : (r : Result ℕ ℕ) → IsSearchInRange r (length rows) → IsBinarySearchResult (λ (e : ℕ × KeyRow). nat_cmp e.0 key) rows r →
      MatchResult r (λ at. (d : ℕ × KeyRow) → lookup (is_at (nat_cmp key)) rows ≡ Some (get_or rows at d).1) (λ at. lookup (is_at (nat_cmp key)) rows ≡ None)
  searched (Ok at) within equal = λ d. row_there at d within (ranked _ key _ (sym (equal d)))
  searched (Err at) within parted = none_there at
      (λ j d lt fits. ranked _ key _ (sym ((parted comparisons_rise).0 j d (omega arith) lt)))
      (λ j d le fits. ranked _ key _ (sym ((parted comparisons_rise).1 j d le fits)))
