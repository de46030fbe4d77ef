-- What is counted, once one label more is.
use Rattle.std.proofs.Common.{◌≡◌, ◌∙◌, ℕ, zero, suc, ◌+◌, ◌<◌, ◌≤◌, Bool, true, false, not, cond, ◌||◌, List, [], ◌∷◌, ◌++◌, map, length, take, get_or, refl, sym, ap, subst, arith, true≢false}
use Rattle.std.specs.Cmp.{IsEquivalence}
use Rattle.std.specs.Prelude.{sum_by}
use Rattle.std.specs.List.{list_any, position_or_len}
use Rattle.std.proofs.Math.ListN.{set}
use Rattle.std.proofs.Math.Seq.{take-suc}
use Rattle.std.proofs.lemmas.List.{length-map, length-take-le}
use Rattle.std.proofs.lemmas.List.Sums.{sum_by-append, sum_by-set, get_or-le-sum_by}
use Rattle.indexmap.specs.IndexSet.{insert_key}
use Rattle.std.proofs.lemmas.Bool.{not-true, not-false}
use Rattle.wire_report.specs.declared.tally.Group.{Group}
use Rattle.wire_report.specs.declared.tally.Tally.{Tally}
use Rattle.wire_report.specs.Groups.{group_of}
use Rattle.wire_report.specs.Tally.{IsLabelTally, distinct}
use Rattle.wire_report.proofs.Distinct.{distinct_push, any_distinct, distinct_apart, distinct_among}
use Rattle.wire_report.proofs.Groups.{more, groups_new, groups_again}

abbrev count_in : List Group → ℕ
count_in groups = sum_by (λ (g : Group). g.count) groups

module _ {K : Type 0} (same : K → K → Bool) (laws : IsEquivalence same) (x : K) where
  pub within : (ks : List K) → list_any (same x) ks ≡ true → position_or_len (same x) ks < length ks
  within [] any = absurd (true≢false (sym any))
  within (k ∷ ks) any = go (λ left. within ks left) (same x k) refl
    where
      lowest : (n : ℕ) → 0 < suc n
      lowest n = omega arith

      next : (m n : ℕ) → m < n → 1 + m < suc n
      next m n less = omega (arith, less)

      go : (list_any (same x) ks ≡ true → position_or_len (same x) ks < length ks) → (b : Bool) → same x k ≡ b → position_or_len (same x) (k ∷ ks) < length (k ∷ ks)
      go later true e = subst (λ b. cond (not b) (1 + position_or_len (same x) ks) 0 < suc (length ks)) (sym e) (lowest (length ks))
      go later false e = subst (λ b. cond (not b) (1 + position_or_len (same x) ks) 0 < suc (length ks)) (sym e)
          (next (position_or_len (same x) ks) (length ks) (later (sym (ap (λ b. b || list_any (same x) ks) e) ∙ any)))

  length_push : (ks : List K) → length (ks ++ x ∷ []) ≡ suc (length ks)
  length_push [] = refl
  length_push (k ∷ ks) = ap suc (length_push ks)

  tally_new : (labels : List K) (old new : Tally K) → IsLabelTally same labels old → new.labels.keys ≡ insert_key same old.labels.keys x → list_any (same x) old.labels.keys ≡ false →
      new.groups.items ≡ old.groups.items ++ record { first = length labels; count = 1 } ∷ [] → IsLabelTally same (labels ++ x ∷ []) new
  tally_new labels old new was keys none groups =
      let fresh : list_any (same x) (distinct same labels) ≡ false = ap (list_any (same x)) (sym was.keys) ∙ none in
      let all : distinct same (labels ++ x ∷ []) ≡ distinct same labels ++ x ∷ [] = distinct_push same labels x
      ∙ ap (λ b. cond b (distinct same labels) (distinct same labels ++ x ∷ [])) fresh in
      record {
        keys = keys ∙ ap (λ ks. insert_key same ks x) was.keys ∙ sym (distinct_push same labels x);
        groups = groups ∙ ap (λ gs. gs ++ record { first = length labels; count = 1 } ∷ []) was.groups
            ∙ groups_new same laws labels x (distinct same labels) fresh (distinct_among same laws labels) (sym (any_distinct same laws labels x) ∙ fresh)
            ∙ ap (map (group_of same (labels ++ x ∷ []))) (sym all);
        whole = ap count_in groups ∙ sum_by-append (λ (g : Group). g.count) old.groups.items (record { first = length labels; count = 1 } ∷ []) ∙ ap (λ n. n + 1) was.whole ∙ one_more (length labels)
            ∙ sym (length_push labels);
      }
    where
      one_more : (n : ℕ) → n + 1 ≡ suc n
      one_more n = omega arith

  tally_again : (labels : List K) (old new : Tally K) (number : ℕ) (g : Group) → IsLabelTally same labels old → new.labels.keys ≡ insert_key same old.labels.keys x →
      list_any (same x) old.labels.keys ≡ true → number ≡ position_or_len (same x) old.labels.keys → g ≡ get_or old.groups.items number g →
      new.groups.items ≡ set old.groups.items number (more g) → IsLabelTally same (labels ++ x ∷ []) new
  tally_again labels old new number g was keys there at read groups =
      let any : list_any (same x) (distinct same labels) ≡ true = ap (list_any (same x)) (sym was.keys) ∙ there in
      let place : number ≡ position_or_len (same x) (distinct same labels) = at ∙ ap (position_or_len (same x)) was.keys in
      let all : distinct same (labels ++ x ∷ []) ≡ distinct same labels = distinct_push same labels x
      ∙ ap (λ b. cond b (distinct same labels) (distinct same labels ++ x ∷ [])) any in
      let is : g ≡ get_or (map (group_of same labels) (distinct same labels)) (position_or_len (same x) (distinct same labels)) g = read ∙ (λ i. get_or (was.groups i) (place i) g) in
      let below : number < length old.groups.items = subst (λ n. number < n) (sym (ap length was.groups ∙ length-map (distinct same labels) (group_of same labels)))
      (subst (λ n. n < length (distinct same labels)) (sym place) (within (distinct same labels) any)) in
      let sum = sum_by-set (λ (g : Group). g.count) old.groups.items number (more g) g below in
      record {
        keys = keys ∙ ap (λ ks. insert_key same ks x) was.keys ∙ sym (distinct_push same labels x);
        groups = groups ∙ (λ i. set (was.groups i) (place i) (more g))
            ∙ groups_again same laws labels x (distinct same labels) g any (distinct_apart same laws labels) (distinct_among same laws labels) is
            ∙ ap (map (group_of same (labels ++ x ∷ []))) (sym all);
        whole = ap count_in groups ∙ one_larger (count_in (set old.groups.items number (more g))) (count_in old.groups.items) g.count
            (ap (λ n. count_in (set old.groups.items number (more g)) + n) (ap (λ (h : Group). h.count) read) ∙ sum) ∙ ap suc was.whole ∙ sym (length_push labels);
      }
    where
      one_larger : (a b n : ℕ) → a + n ≡ b + (n + 1) → a ≡ suc b
      one_larger a b n e = omega (arith, e)

  one_more_taken : (labels : List K) (place : ℕ) → place < length labels → x ≡ get_or labels place x → take (suc place) labels ≡ take place labels ++ x ∷ []
  one_more_taken labels place within is = take-suc labels place x within ∙ ap (λ y. take place labels ++ y ∷ []) (sym is)

  pub noted_new : (labels : List K) (place : ℕ) (is_new : Bool) (old new : Tally K) → place < length labels → x ≡ get_or labels place x → IsLabelTally same (take place labels) old →
      new.labels.keys ≡ insert_key same old.labels.keys x → is_new ≡ not (list_any (same x) old.labels.keys) → is_new ≡ true →
      new.groups.items ≡ old.groups.items ++ record { first = place; count = 1 } ∷ [] → IsLabelTally same (take (suc place) labels) new
  noted_new labels place is_new old new below is was keys added fresh groups =
      subst (λ ls. IsLabelTally same ls new) (sym (one_more_taken labels place below is))
      (tally_new (take place labels) old new was keys (not-true (list_any (same x) old.labels.keys) (sym added ∙ fresh))
      (groups ∙ ap (λ n. old.groups.items ++ record { first = n; count = 1 } ∷ []) (sym (length_taken labels place below))))
    where
      length_taken : (ls : List K) (n : ℕ) → n < length ls → length (take n ls) ≡ n
      length_taken [] n less = absurd (none n less)
        where
          none : (n : ℕ) → n < 0 → ⊥
          none n less = omega (arith, less)
      length_taken (l ∷ ls) zero less = refl
      length_taken (l ∷ ls) (suc n) less = ap suc (length_taken ls n (lower n (length ls) less))
        where
          lower : (a b : ℕ) → suc a < suc b → a < b
          lower a b less = omega (arith, less)

  pub noted_again : (labels : List K) (place number : ℕ) (g : Group) (is_new : Bool) (old new : Tally K) → place < length labels → x ≡ get_or labels place x → IsLabelTally same (take place labels) old →
      new.labels.keys ≡ insert_key same old.labels.keys x → is_new ≡ not (list_any (same x) old.labels.keys) → is_new ≡ false →
      number ≡ position_or_len (same x) old.labels.keys → g ≡ get_or old.groups.items number g → new.groups.items ≡ set old.groups.items number (more g) →
      IsLabelTally same (take (suc place) labels) new
  noted_again labels place number g is_new old new below is was keys added was_there at read groups =
      subst (λ ls. IsLabelTally same ls new) (sym (one_more_taken labels place below is))
      (tally_again (take place labels) old new number g was keys (not-false (list_any (same x) old.labels.keys) (sym added ∙ was_there)) at read groups)

  -- the group of a label that was seen is there
  pub group_there : (labels : List K) (number : ℕ) (is_new : Bool) (old : Tally K) → IsLabelTally same labels old → is_new ≡ not (list_any (same x) old.labels.keys) → is_new ≡ false →
      number ≡ position_or_len (same x) old.labels.keys → number < length old.groups.items
  group_there labels number is_new old was added was_there at =
      subst (λ n. n < length old.groups.items) (sym at)
      (subst (λ n. position_or_len (same x) old.labels.keys < n) as_many (within old.labels.keys (not-false (list_any (same x) old.labels.keys) (sym added ∙ was_there))))
    where
      as_many : length old.labels.keys ≡ length old.groups.items
      as_many = ap length was.keys ∙ sym (length-map (distinct same labels) (group_of same labels)) ∙ sym (ap length was.groups)

  -- a group counts no more than was counted
  pub count_within : (labels : List K) (place number : ℕ) (g : Group) (old : Tally K) → place < length labels → IsLabelTally same (take place labels) old → number < length old.groups.items →
      g ≡ get_or old.groups.items number g → g.count ≤ place
  count_within labels place number g old below was there read =
      let most = get_or-le-sum_by (λ (h : Group). h.count) old.groups.items number g there in
      let its = ap (λ (h : Group). h.count) read in
      let whole = was.whole in
      let taken = length-take-le place labels (omega (arith, below)) in
      omega (arith, most, its, whole, taken)
