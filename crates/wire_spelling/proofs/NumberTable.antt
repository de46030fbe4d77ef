-- A table of lists of items as vectors hold it.
use Rattle.std.proofs.Common.{◌≡◌, ◌⊎◌, inl, inr, ℕ, zero, suc, List, [], ◌∷◌, ◌++◌, Bool, true, false, Some, Vec, Global, if◌then◌else◌, option_map, map, refl, sym, ap, ◌∙◌}
use Rattle.std.specs.Prelude.{slice_get, ◌&&◌}
use Rattle.std.specs.Str.{bytes_eq}
use Rattle.std.specs.List.{IsDistinct, AllByRecursion, list_any}
use Rattle.std.specs.List.Sorted.{IsPermutation, IsSorted}
use Rattle.std.specs.Ordering.{nat_cmp, is_lt}
use Rattle.std.specs.Cmp.Lexicographic.{slice_cmp, pointwise}
use Rattle.std.proofs.lemmas.Bool.{true≢false, and_parts}
use Rattle.std.proofs.lemmas.Cmp.{nat_list_cmp_total}
use Rattle.std.proofs.lemmas.List.Sorted.{IsPermutation-map, ranks_by, sorted_far, sum_by-IsPermutation}
use Rattle.std.proofs.lemmas.Option.{none-some, same_Some, slice_get-map}
use Rattle.std.proofs.lemmas.Slice.Eq.{bytes_eq-Decides}
use Rattle.std.proofs.Common.{◌<◌, ◌≤◌, length, get_or, arith, cond}
use Rattle.wire_types.specs.Texts.{lists_of}
use Rattle.wire_spelling.specs.Spelling.{SpelledSet, HasItemTwice, HasTwice, HasWholeJobAndMore, items_of, times}
use Rattle.wire_spelling.specs.Numbering.{AreSetsDistinct, AreAscending, AreFrom, IsSetInOrder, IsSetNumbered, KeepsSets, has_neighbours}
use Rattle.wire_spelling.proofs.Overlaps.{item_twice, neighbours_named, twice_neighbours, whole_and_more, whole_neighbours}

abbrev Text : Type 0
Text = Vec ℕ Global

abbrev pub Key : Type 0
Key = Vec Text Global

abbrev pub view : Key → List (List ℕ)
view k = lists_of k.items

abbrev pub same_keys : Key → Key → Bool
same_keys a b = pointwise (λ (x y : Text). bytes_eq x.items y.items) a.items b.items

same_texts : (xs ys : List Text) → pointwise (λ (x y : Text). bytes_eq x.items y.items) xs ys ≡ true → lists_of xs ≡ lists_of ys
same_texts [] [] t = refl
same_texts [] (y ∷ ys) t = absurd (true≢false (sym t))
same_texts (x ∷ xs) [] t = absurd (true≢false (sym t))
same_texts (x ∷ xs) (y ∷ ys) t =
    let both = and_parts _ _ t in
    ap (λ (v : List ℕ). v ∷ lists_of xs) ((bytes_eq-Decides x.items y.items).0 both.0) ∙ ap (λ (vs : List (List ℕ)). y.items ∷ vs) (same_texts xs ys both.1)

head_of : List (List ℕ) → List ℕ
head_of [] = []
head_of (x ∷ xs) = x

tail_of : List (List ℕ) → List (List ℕ)
tail_of [] = []
tail_of (x ∷ xs) = xs

absurd_nil : (x : List ℕ) (xs : List (List ℕ)) → ◌≡◌ {A = List (List ℕ)} [] (x ∷ xs) → ⊥
absurd_nil x xs e = cc

texts_same : (xs ys : List Text) → lists_of xs ≡ lists_of ys → pointwise (λ (x y : Text). bytes_eq x.items y.items) xs ys ≡ true
unfolding head_of tail_of
texts_same [] [] e = refl
texts_same [] (y ∷ ys) e = absurd (absurd_nil y.items (lists_of ys) e)
texts_same (x ∷ xs) [] e = absurd (absurd_nil x.items (lists_of xs) (sym e))
texts_same (x ∷ xs) (y ∷ ys) e =
    ap (λ b. b && pointwise (λ (x y : Text). bytes_eq x.items y.items) xs ys) ((bytes_eq-Decides x.items y.items).1 (ap (head_of) e))
    ∙ texts_same xs ys (ap tail_of e)

-- a key that is there has its list there
pub stored_at : (keys : List Key) (n : ℕ) (k value : Key) → slice_get keys n ≡ Some k → same_keys value k ≡ true → slice_get (map view keys) n ≡ Some (view value)
stored_at keys n k value at same = slice_get-map view keys n ∙ ap (option_map view) at ∙ ap Some (sym (same_texts value.items k.items same))

-- keys that are added go last
kept_push : (keys : List Key) (v : Key) (n : ℕ) (items : List (List ℕ)) → slice_get (map view keys) n ≡ Some items → slice_get (map view (keys ++ v ∷ [])) n ≡ Some items
kept_push [] v n items is = absurd (none-some items is)
kept_push (k ∷ keys) v zero items is = is
kept_push (k ∷ keys) v (suc n) items is = kept_push keys v n items is

pub keeps_inserted : (old new : List Key) (v : Key) → new ≡ (if list_any (same_keys v) old then old else old ++ v ∷ []) → KeepsSets (map view old) (map view new)
keeps_inserted old new v e n items is = go (list_any (same_keys v) old) e
  where
    go : (b : Bool) → new ≡ (if b then old else old ++ v ∷ []) → slice_get (map view new) n ≡ Some items
    go true e = ap (λ ks. slice_get (map view ks) n) e ∙ is
    go false e = ap (λ ks. slice_get (map view ks) n) e ∙ kept_push old v n items is

-- distinct keys hold a list once
absent : (k : Key) (keys : List Key) → AllByRecursion (λ y. same_keys k y ≡ false) keys → (n : ℕ) → slice_get (map view keys) n ≡ Some (view k) → ⊥
absent k [] all n is = none-some (view k) is
absent k (x ∷ keys) all zero is = true≢false (sym (texts_same k.items x.items (sym (same_Some _ _ is))) ∙ all.0)
absent k (x ∷ keys) all (suc n) is = absent k keys all.1 n is

pub apart : (keys : List Key) → IsDistinct same_keys keys → AreSetsDistinct (map view keys)
unfolding IsDistinct
apart [] d m n items at_m at_n = absurd (none-some items at_m)
apart (k ∷ keys) d zero zero items at_m at_n = refl
apart (k ∷ keys) d zero (suc n) items at_m at_n = absurd (absent k keys d.0 n (at_n ∙ sym at_m))
apart (k ∷ keys) d (suc m) zero items at_m at_n = absurd (absent k keys d.0 m (at_m ∙ sym at_n))
apart (k ∷ keys) d (suc m) (suc n) items at_m at_n = ap suc (apart keys d.1 m n items at_m at_n)

-- what is sorted ascends
abbrev lt : Text → Text → Bool
lt x y = is_lt (slice_cmp nat_cmp x.items y.items)

from_first : (x : Text) (xs : List Text) → ((j : ℕ) (d : Text) → j < length xs → lt (get_or xs j d) x ≡ false) → AreFrom x.items (lists_of xs)
from_first x [] f = tt
from_first x (y ∷ ys) f = (f 0 y (omega arith), from_first x ys (λ j d lt. f (suc j) d (omega (arith, lt))))

ascending : (xs : List Text) → ((i j : ℕ) (d : Text) → i ≤ j → j < length xs → lt (get_or xs j d) (get_or xs i d) ≡ false) → AreAscending (lists_of xs)
ascending [] f = tt
ascending (x ∷ xs) f = (
  from_first x xs (λ j d lt. f 0 (suc j) d (omega arith) (omega (arith, lt))),
  ascending xs (λ i j d le lt. f (suc i) (suc j) d (omega (arith, le)) (omega (arith, lt))),
)

pub in_order : (set : SpelledSet) (old new : List Text) → lists_of old ≡ items_of set → IsPermutation old new →
    IsSorted (λ (x y : Text). slice_cmp nat_cmp x.items y.items) new → IsSetInOrder set (lists_of new)
in_order set old new is moved sorted = record {
  ascending = ascending new (sorted_far lt (ranks_by nat_list_cmp_total (λ (v : Text). v.items)) new sorted);
  same = λ item. sum_by-IsPermutation (λ (other : List ℕ). cond {A = ℕ} (bytes_eq other item) 1 0) (lists_of old) (lists_of new) (IsPermutation-map (λ (v : Text). v.items) old new moved) ∙ ap (times item) is;
}

-- a set with its number is told
pub told : (table : List (List (List ℕ))) (set : SpelledSet) (items : List (List ℕ)) (number : ℕ) (repeats : Bool) → IsSetInOrder set items →
    slice_get table number ≡ Some items → repeats ≡ has_neighbours items → IsSetNumbered table set (record { number = number; repeats = repeats })
told table set items number repeats order there is = record {
  items = items;
  order = order;
  there = there;
  twice = ((λ t. named (neighbours_named items (sym is ∙ t))), (λ (h : HasTwice set). is ∙ neighbours h));
}
  where
    named : HasItemTwice items ⊎ HasWholeJobAndMore items → HasTwice set
    named (inl h) = inl (item_twice items (items_of set) order.same h)
    named (inr h) = inr (whole_and_more items (items_of set) order.same h)

    back : (item : List ℕ) → times item (items_of set) ≡ times item items
    back item = sym (order.same item)

    neighbours : HasTwice set → has_neighbours items ≡ true
    neighbours (inl h) = let here = item_twice (items_of set) items back h in twice_neighbours here.item items order.ascending here.twice
    neighbours (inr h) = let here = whole_and_more (items_of set) items back h in whole_neighbours here.job here.rank items order.ascending here.whole here.more here.apart
