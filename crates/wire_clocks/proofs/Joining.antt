-- The join of two trees, subtree by subtree.
use Rattle.std.proofs.Common.{◌≡◌, ◌∙◌, ℕ, ◌<◌, ◌/◌, ◌%◌, ◌^◌, ◌-◌, ◌+◌, List, length, slice_index, max, sym, ap, subst, arith, inl, inr}
use Rattle.std.proofs.lemmas.Bool.{cases_eq}
use Rattle.std.proofs.lemmas.List.{get_or-set_same, get_or-set_other, length-set}
use Rattle.std.specs.Prelude.{slice_set}
use Rattle.wire_clocks.specs.Rows.{entry, tree_says, IsTree, KeepsRows, IsZero}
use Rattle.wire_clocks.proofs.Growing.{says_kept, tree_kept, says_down, says_zero, says_low, row_says, rest_low, place_low, keeps_through, keeps_itself, tree_down, tree_low}

-- the first `count` subtrees are joined
pub record Joins (old now : List (List ℕ)) (level : ℕ) (lefts rights joined : List ℕ) (count : ℕ) : Type 0 where
  pub keeps : KeepsRows old now
  pub width : length joined ≡ 16
  pub trees : (j : ℕ) → IsTree now level (slice_index joined j)
  pub says : (j q : ℕ) → j < count → q < 16 ^ level → tree_says now level (slice_index joined j) q ≡ max (tree_says old level (slice_index lefts j) q) (tree_says old level (slice_index rights j) q)

pub joins_step : (old now next : List (List ℕ)) (level i t : ℕ) (lefts rights joined : List ℕ) → Joins old now level lefts rights joined i → i < 16 →
    ((j : ℕ) → IsTree old level (slice_index lefts j)) → ((j : ℕ) → IsTree old level (slice_index rights j)) → KeepsRows now next → IsTree next level t →
    ((q : ℕ) → q < 16 ^ level → tree_says next level t q ≡ max (tree_says now level (slice_index lefts i) q) (tree_says now level (slice_index rights i) q)) →
    Joins old next level lefts rights (slice_set joined i t) (i + 1)
joins_step old now next level i t lefts rights joined joins low left right keeps tree says =
    let within : i < length joined = omega (arith, low, joins.width) in
    let here : slice_index (slice_set joined i t) i ≡ t = get_or-set_same joined i t 0 within in
    record {
      keeps = keeps_through old now next joins.keeps keeps;
      width = length-set joined i t ∙ joins.width;
      trees = λ j. elim (cases_eq j i) [
        | inl e ↦ subst (IsTree next level) (sym (ap (slice_index (slice_set joined i t)) e ∙ here)) tree
        | inr ne ↦ subst (IsTree next level) (sym (get_or-set_other joined i j t 0 ne)) (tree_kept now next keeps level (slice_index joined j) (joins.trees j))
      ];
      says = λ j q below inside. elim (cases_eq j i) [
        | inl e ↦ subst (λ k. tree_says next level (slice_index (slice_set joined i t) k) q ≡ max (tree_says old level (slice_index lefts k) q) (tree_says old level (slice_index rights k) q))
            (sym e) (ap (λ n. tree_says next level n q) here ∙ says q inside ∙ ap (λ n. max n (tree_says now level (slice_index rights i) q))
            (says_kept old now joins.keeps level (slice_index lefts i) (left i) q) ∙ ap (max (tree_says old level (slice_index lefts i) q))
            (says_kept old now joins.keeps level (slice_index rights i) (right i) q))
        | inr ne ↦ ap (λ n. tree_says next level n q) (get_or-set_other joined i j t 0 ne) ∙ says_kept now next keeps level (slice_index joined j) (joins.trees j) q
            ∙ joins.says j q (omega (arith, below, ne)) inside
      ];
    }

pub joins_says : (old now new : List (List ℕ)) (level left right t : ℕ) (lefts rights joined : List ℕ) → 0 < level → Joins old now (level - 1) lefts rights joined 16 →
    ((i : ℕ) → slice_index lefts i ≡ entry old left i) → ((i : ℕ) → slice_index rights i ≡ entry old right i) → KeepsRows now new → ((i : ℕ) → entry new t i ≡ slice_index joined i) → (q : ℕ) →
    q < 16 ^ level → tree_says new level t q ≡ max (tree_says old level left q) (tree_says old level right q)
joins_says old now new level left right t lefts rights joined lt joins left_is right_is keeps each q inside =
    let k = level - 1 in
    let d = q / 16 ^ k in
    let r = q % 16 ^ k in
    let lefts_say : tree_says old k (slice_index lefts d) r ≡ tree_says old level left q = ap (λ n. tree_says old k n r) (left_is d) ∙ sym (says_down old level left q lt) in
    let rights_say : tree_says old k (slice_index rights d) r ≡ tree_says old level right q = ap (λ n. tree_says old k n r) (right_is d) ∙ sym (says_down old level right q lt) in
    row_says now new level t joined keeps lt each joins.trees q ∙ joins.says d r (place_low level q lt inside) (rest_low k q)
    ∙ ap (λ n. max n (tree_says old k (slice_index rights d) r)) lefts_say ∙ ap (max (tree_says old level left q)) rights_say

-- the numbers of a tree are trees
pub subtrees : (rows : List (List ℕ)) (level tree : ℕ) (numbers : List ℕ) → 0 < level → IsTree rows level tree → ((i : ℕ) → slice_index numbers i ≡ entry rows tree i) → (i : ℕ) →
    IsTree rows (level - 1) (slice_index numbers i)
subtrees rows level tree numbers lt t each i = subst (IsTree rows (level - 1)) (sym (each i)) (tree_down rows level tree lt t i)

-- numbers are trees of height 0
pub join_low : (rows : List (List ℕ)) (level left right t q : ℕ) → level ≡ 0 → t ≡ max left right → tree_says rows level t q ≡ max (tree_says rows level left q) (tree_says rows level right q)
join_low rows level left right t q e is =
    let a = says_low rows level left q e in
    let b = says_low rows level right q e in
    let c = says_low rows level t q e in
    c ∙ is ∙ ap (λ n. max n right) (sym a) ∙ ap (max (tree_says rows level left q)) (sym b)

pub join_same : (rows : List (List ℕ)) (level left right q : ℕ) → left ≡ right → tree_says rows level left q ≡ max (tree_says rows level left q) (tree_says rows level right q)
join_same rows level left right q e =
    let same : tree_says rows level left q ≡ tree_says rows level right q = ap (λ n. tree_says rows level n q) e in
    omega (arith, same)

pub join_zero_right : (rows : List (List ℕ)) → IsZero rows → (level left right q : ℕ) → right ≡ 0 → tree_says rows level left q ≡ max (tree_says rows level left q) (tree_says rows level right q)
join_zero_right rows z level left right q e =
    let none : tree_says rows level right q ≡ 0 = ap (λ n. tree_says rows level n q) e ∙ says_zero rows z level q in
    omega (arith, none)

pub join_zero_left : (rows : List (List ℕ)) → IsZero rows → (level left right q : ℕ) → left ≡ 0 → tree_says rows level right q ≡ max (tree_says rows level left q) (tree_says rows level right q)
join_zero_left rows z level left right q e =
    let none : tree_says rows level left q ≡ 0 = ap (λ n. tree_says rows level n q) e ∙ says_zero rows z level q in
    omega (arith, none)

-- a row of numbers
pub joins_numbers : (old : List (List ℕ)) (level : ℕ) (lefts rights joined : List ℕ) → level ≡ 0 → length joined ≡ 16 →
    ((i : ℕ) → i < 16 → slice_index joined i ≡ max (slice_index lefts i) (slice_index rights i)) → Joins old old level lefts rights joined 16
joins_numbers old level lefts rights joined e width each = record {
  keeps = keeps_itself old;
  width = width;
  trees = λ j. tree_low old level (slice_index joined j) e;
  says = λ j q low inside. join_low old level (slice_index lefts j) (slice_index rights j) (slice_index joined j) q e (each j low);
}
