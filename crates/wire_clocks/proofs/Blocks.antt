-- The lowest rows of a tree, each of 16 processes.
use Rattle.std.proofs.Common.{◌≡◌, ◌∙◌, ◌==◌, ◌<◌, ◌/◌, ◌%◌, ◌^◌, ◌-◌, ◌+◌, ◌*◌, ℕ, zero, suc, List, length, slice_index, max, refl, sym, ap, subst, arith, inl, inr}
use Rattle.std.specs.Prelude.{Bool, true, false, nat_lt, if◌then◌else◌}
use Rattle.std.proofs.Math.Nat.{div-div-eq-div-mul, pow-suc, pow-succ', one-le-pow}
use Rattle.std.proofs.lemmas.Bool.{cases_eq, cond-true, cond-false, eq-eqb, ne_eqb, ltb-true, ltb-false}
use Rattle.std.proofs.lemmas.Nat.{div-mul-add, mod-mul-add, mod_below, div_below, div-add-mod'}
use lib.Arith.{mod-mul}
use Rattle.wire_clocks.specs.Rows.{entry, tree_says, IsTree, KeepsRows}
use Rattle.wire_clocks.proofs.Growing.{says_kept, rest_low}

-- the last digit of a process, and the others
digits_rest : (k p : ℕ) → p % 16 ^ suc k ≡ (p / 16) % 16 ^ k * 16 + p % 16
digits_rest k p =
    let above : 0 < 16 ^ k = one-le-pow k 16 (omega arith) in
    ap (λ n. p % n) (pow-suc 16 k) ∙ mod-mul p above (omega arith)

digits_high : (k p : ℕ) → p / 16 ^ suc k ≡ p / 16 / 16 ^ k
digits_high k p = ap (λ n. p / n) (pow-succ' 16 k) ∙ sym (div-div-eq-div-mul p 16 (16 ^ k))

digits_middle : (k p : ℕ) → p % 16 ^ suc k / 16 ≡ (p / 16) % 16 ^ k
digits_middle k p = ap (λ n. n / 16) (digits_rest k p) ∙ div-mul-add ((p / 16) % 16 ^ k) 16 (p % 16) (mod_below p 16 (omega arith))

digits_last : (k p : ℕ) → p % 16 ^ suc k % 16 ≡ p % 16
digits_last k p = ap (λ n. n % 16) (digits_rest k p) ∙ mod-mul-add ((p / 16) % 16 ^ k) 16 (p % 16) (mod_below p 16 (omega arith))

-- what a tree says of a process stands in a lowest row
pub says_last : (rows : List (List ℕ)) (k tree p : ℕ) → p < 16 ^ suc k → tree_says rows (suc k) tree p ≡ entry rows (tree_says rows k tree (p / 16)) (p % 16)
unfolding tree_says
says_last rows zero tree p low =
    let one : p / 16 ^ 0 ≡ p = omega arith in
    let same : p % 16 ≡ p = omega arith in
    ap (entry rows tree) (one ∙ sym same)
says_last rows (suc k) tree p low =
    let s = 16 ^ suc k in
    says_last rows k (entry rows tree (p / s)) (p % s) (rest_low (suc k) p) ∙ ap (λ d. entry rows (tree_says rows k (entry rows tree d) (p % s / 16)) (p % s % 16)) (digits_high k p)
    ∙ ap (λ b. entry rows (tree_says rows k (entry rows tree (p / 16 / 16 ^ k)) b) (p % s % 16)) (digits_middle k p)
    ∙ ap (λ r. entry rows (tree_says rows k (entry rows tree (p / 16 / 16 ^ k)) ((p / 16) % 16 ^ k)) r) (digits_last k p)

-- the lowest rows of a tree are there
pub lowest_there : (rows : List (List ℕ)) (k tree p : ℕ) → IsTree rows (suc k) tree → tree_says rows k tree p < length rows
unfolding tree_says IsTree
lowest_there rows zero tree p t = t.0
lowest_there rows (suc k) tree p t = lowest_there rows k (entry rows tree (p / 16 ^ k)) (p % 16 ^ k) (t.1 (p / 16 ^ k))

-- the rows above the lowest rows are there
pub tree_above : (rows : List (List ℕ)) (k tree : ℕ) → IsTree rows (suc k) tree → IsTree rows k tree
unfolding IsTree
tree_above rows zero tree t = tt
tree_above rows (suc k) tree t = (t.0, λ i. tree_above rows k (entry rows tree i) (t.1 i))

-- a row of numbers
pub lowest_tree : (rows : List (List ℕ)) (n : ℕ) → n < length rows → IsTree rows 1 n
unfolding IsTree
lowest_tree rows n lt = (lt, λ i. tt)

-- a tree with another lowest row
pub block_row_says : (old now new : List (List ℕ)) (k root block lowest t : ℕ) (stands least raised : List ℕ) → KeepsRows old now → KeepsRows now new → IsTree old (suc k) root → lowest < length now →
    ((i : ℕ) → slice_index stands i ≡ entry old (tree_says old k root block) i) → ((i : ℕ) → i < 16 → slice_index raised i ≡ max (slice_index stands i) (slice_index least i)) →
    ((i : ℕ) → entry now lowest i ≡ slice_index raised i) → ((b : ℕ) → b < 16 ^ k → tree_says new k t b ≡ (if b == block then lowest else tree_says now k root b)) → (q : ℕ) → q < 16 ^ suc k →
    tree_says new (suc k) t q ≡ (if q / 16 == block then max (tree_says old (suc k) root q) (slice_index least (q % 16)) else tree_says old (suc k) root q)
block_row_says old now new k root block lowest t stands least raised keeps keeps' is_root there stands_are raised_are lowest_is put q low =
    let b = q / 16 in
    let r = q % 16 in
    let r_low : r < 16 = mod_below q 16 (omega arith) in
    let big : 16 ^ suc k ≡ 16 ^ k * 16 = pow-suc 16 k in
    let b_low : b < 16 ^ k = div_below q 16 (16 ^ k) (omega arith) (omega (arith, low, big)) in
    let was : tree_says old (suc k) root q ≡ entry old (tree_says old k root b) r = says_last old k root q low in
    let is : tree_says new (suc k) t q ≡ entry new (tree_says new k t b) r = says_last new k t q low in
    let raise = max (tree_says old (suc k) root q) (slice_index least r) in
    elim (cases_eq b block) [
      | inl e ↦ is ∙ ap (λ n. entry new n r) (put b b_low ∙ cond-true (b == block) lowest (tree_says now k root b) (eq-eqb b block e)) ∙ keeps'.same lowest r there ∙ lowest_is r
          ∙ raised_are r r_low ∙ ap (λ n. max n (slice_index least r)) (stands_are r ∙ ap (λ c. entry old (tree_says old k root c) r) (sym e) ∙ sym was)
          ∙ sym (cond-true (b == block) raise (tree_says old (suc k) root q) (eq-eqb b block e))
      | inr ne ↦
          let l = tree_says old k root b in
          let l_there : l < length old = lowest_there old k root b is_root in
          let upper : tree_says now k root b ≡ l = says_kept old now keeps k root (tree_above old k root is_root) b in
          is ∙ ap (λ n. entry new n r) (put b b_low ∙ cond-false (b == block) lowest (tree_says now k root b) (ne_eqb b block ne) ∙ upper) ∙ keeps'.same l r (omega (arith, l_there, keeps.longer))
          ∙ keeps.same l r l_there ∙ sym was ∙ sym (cond-false (b == block) raise (tree_says old (suc k) root q) (ne_eqb b block ne))
    ]

-- the block is already as high as it is to be
pub block_stays : (now : List (List ℕ)) (k root block lowest raised : ℕ) → tree_says now k root block ≡ lowest → raised ≡ lowest → (b : ℕ) → b < 16 ^ k →
    tree_says now k root b ≡ (if b == block then raised else tree_says now k root b)
block_stays now k root block lowest raised at same b low = elim (cases_eq b block) [
  | inl e ↦ ap (tree_says now k root) e ∙ at ∙ sym same ∙ sym (cond-true (b == block) raised (tree_says now k root b) (eq-eqb b block e))
  | inr ne ↦ sym (cond-false (b == block) raised (tree_says now k root b) (ne_eqb b block ne))
]

pub block_low : (levels block : ℕ) → 0 < levels → 16 * block < 16 ^ levels → block < 16 ^ (levels - 1)
block_low zero block lt low = absurd (omega (arith, lt))
block_low (suc k) block lt low =
    let e : suc k - 1 ≡ k = omega arith in
    let big : 16 ^ suc k ≡ 16 ^ k * 16 = pow-suc 16 k in
    let here : block < 16 ^ k = omega (arith, low, big) in
    subst (λ j. block < 16 ^ j) (sym e) here

block_wide : (levels block q : ℕ) → 0 < levels → block < 16 ^ (levels - 1) → q / 16 ≡ block → q < 16 ^ levels
block_wide zero block q lt low e = absurd (omega (arith, lt))
block_wide (suc k) block q lt low e =
    let down : suc k - 1 ≡ k = omega arith in
    let here : block < 16 ^ k = subst (λ j. block < 16 ^ j) down low in
    let big : 16 ^ suc k ≡ 16 ^ k * 16 = pow-suc 16 k in
    let whole = div-add-mod' q 16 in
    let rest = mod_below q 16 (omega arith) in
    omega (arith, here, big, whole, rest, e)

block_cases : (b here : Bool) (new old least : ℕ) → (b ≡ true → new ≡ (if here then max old least else old)) → (b ≡ false → here ≡ false) →
    (if b then new else 0) ≡ (if here then max (if b then old else 0) least else (if b then old else 0))
block_cases true here new old least inside outside = inside refl
block_cases false here new old least inside outside = sym (cond-false here (max 0 least) 0 (outside refl))

-- what a clock says, which is 0 past the last process
pub block_says : (levels block q new old least : ℕ) → 0 < levels → 16 * block < 16 ^ levels → (q < 16 ^ levels → new ≡ (if q / 16 == block then max old least else old)) →
    (if nat_lt q (16 ^ levels) then new else 0) ≡ (if q / 16 == block then max (if nat_lt q (16 ^ levels) then old else 0) least else (if nat_lt q (16 ^ levels) then old else 0))
block_says levels block q new old least lt low inside =
    block_cases (nat_lt q (16 ^ levels)) (q / 16 == block) new old least (λ t. inside (ltb-true q (16 ^ levels) t)) (λ f.
    let past = ltb-false q (16 ^ levels) f in
    ne_eqb (q / 16) block (λ e. let within = block_wide levels block q lt (block_low levels block lt low) e in omega (arith, past, within)))
