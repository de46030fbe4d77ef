-- A tree with another number at one process.
use Rattle.std.proofs.Common.{◌≡◌, ◌∙◌, ◌==◌, ℕ, zero, suc, ◌<◌, ◌/◌, ◌%◌, ◌^◌, ◌-◌, ◌+◌, ◌*◌, List, slice_index, refl, sym, ap, subst, arith, inl, inr}
use Rattle.std.proofs.lemmas.Bool.{cases_eq, cond_both, cond-true, cond-false, eq-eqb, ne_eqb}
use Rattle.std.proofs.lemmas.Nat.{div-add-mod'}
use Rattle.std.specs.Prelude.{if◌then◌else◌}
use Rattle.wire_clocks.specs.Rows.{entry, tree_says, IsTree, KeepsRows}
use Rattle.wire_clocks.proofs.Growing.{says_kept, tree_kept, says_down, tree_down, row_says, rest_low}

-- two processes of one subtree are one where their places in it are
same_place : (q p s : ℕ) → q / s ≡ p / s → (q % s == p % s) ≡ (q == p)
same_place q p s e = elim (cases_eq q p) [ inl eq ↦ eq-eqb (q % s) (p % s) (ap (λ n. n % s) eq) ∙ sym (eq-eqb q p eq) | inr ne ↦ ne_eqb (q % s) (p % s) (λ r. ne (whole r)) ∙ sym (ne_eqb q p ne) ]
  where
    whole : q % s ≡ p % s → q ≡ p
    whole r = sym (div-add-mod' q s) ∙ ap (λ n. n * s + q % s) e ∙ ap (λ n. p / s * s + n) r ∙ div-add-mod' p s

-- the numbers of the new row are trees
pub put_trees : (old now : List (List ℕ)) (level tree at below : ℕ) (numbers : List ℕ) → KeepsRows old now → 0 < level → IsTree old level tree → IsTree now (level - 1) below →
    ((i : ℕ) → slice_index numbers i ≡ (if i == at then below else entry now tree i)) → (i : ℕ) → IsTree now (level - 1) (slice_index numbers i)
put_trees old now level tree at below numbers keeps lt t tb each i =
    subst (IsTree now (level - 1)) (sym (each i)) (cond_both (i == at) below (entry now tree i) (IsTree now (level - 1)) (λ _. tb)
    (λ _. tree_down now level tree lt (tree_kept old now keeps level tree t) i))

-- what the new row says where the process is in the changed subtree
put_inside : (old now : List (List ℕ)) (level k tree process number below q : ℕ) (numbers : List ℕ) → k ≡ level - 1 → 0 < level →
    ((r : ℕ) → r < 16 ^ k → tree_says now k below r ≡ (if r == process % 16 ^ k then number else tree_says old k (entry old tree (process / 16 ^ k)) r)) →
    ((i : ℕ) → slice_index numbers i ≡ (if i == process / 16 ^ k then below else entry now tree i)) → q / 16 ^ k ≡ process / 16 ^ k →
    tree_says now k (slice_index numbers (q / 16 ^ k)) (q % 16 ^ k) ≡ (if q == process then number else tree_says old level tree q)
put_inside old now level k tree process number below q numbers down lt lower each eq =
    let s = 16 ^ k in
    let other = tree_says old k (entry old tree (process / s)) (q % s) in
    let here : slice_index numbers (q / s) ≡ below = each (q / s) ∙ cond-true (q / s == process / s) below (entry now tree (q / s)) (eq-eqb (q / s) (process / s) eq) in
    let same : other ≡ tree_says old level tree q = ap (λ i. tree_says old k (entry old tree i) (q % s)) (sym eq)
    ∙ subst (λ j. tree_says old j (entry old tree (q / 16 ^ j)) (q % 16 ^ j) ≡ tree_says old level tree q) (sym down) (sym (says_down old level tree q lt)) in
    ap (λ n. tree_says now k n (q % s)) here ∙ lower (q % s) (rest_low k q) ∙ ap (λ b. if b then number else other) (same_place q process s eq) ∙ ap (λ x. if q == process then number else x) same

-- and where it is in another
put_outside : (old now : List (List ℕ)) (level k tree process number below q : ℕ) (numbers : List ℕ) → k ≡ level - 1 → KeepsRows old now → 0 < level → IsTree old level tree →
    ((i : ℕ) → slice_index numbers i ≡ (if i == process / 16 ^ k then below else entry now tree i)) → (q / 16 ^ k ≡ process / 16 ^ k → ⊥) →
    tree_says now k (slice_index numbers (q / 16 ^ k)) (q % 16 ^ k) ≡ (if q == process then number else tree_says old level tree q)
put_outside old now level k tree process number below q numbers down keeps lt is_tree each ne =
    let s = 16 ^ k in
    let here : slice_index numbers (q / s) ≡ entry now tree (q / s) = each (q / s) ∙ cond-false (q / s == process / s) below (entry now tree (q / s)) (ne_eqb (q / s) (process / s) ne) in
    let up : tree_says now k (entry now tree (q / s)) (q % s) ≡ tree_says now level tree q = subst (λ j. tree_says now j (entry now tree (q / 16 ^ j)) (q % 16 ^ j) ≡ tree_says now level tree q)
    (sym down) (sym (says_down now level tree q lt)) in
    ap (λ n. tree_says now k n (q % s)) here ∙ up ∙ says_kept old now keeps level tree is_tree q
    ∙ sym (cond-false (q == process) number (tree_says old level tree q) (ne_eqb q process (λ e. ne (ap (λ n. n / s) e))))

pub put_says : (old now new : List (List ℕ)) (level tree process number below t : ℕ) (numbers : List ℕ) → KeepsRows old now → KeepsRows now new → 0 < level → IsTree old level tree →
    IsTree now (level - 1) below → ((r : ℕ) → r < 16 ^ (level - 1) → tree_says now (level - 1) below
    r ≡ (if r == process % 16 ^ (level - 1) then number else tree_says old (level - 1) (entry old tree (process / 16 ^ (level - 1))) r)) →
    ((i : ℕ) → slice_index numbers i ≡ (if i == process / 16 ^ (level - 1) then below else entry now tree i)) → ((i : ℕ) → entry new t i ≡ slice_index numbers i) → (q : ℕ) →
    tree_says new level t q ≡ (if q == process then number else tree_says old level tree q)
put_says old now new level tree process number below t numbers keeps keeps' lt is_tree tb lower each each' q =
    let k = level - 1 in
    let first = row_says now new level t numbers keeps' lt each' (put_trees old now level tree (process / 16 ^ k) below numbers keeps lt is_tree tb each) q in
    elim (cases_eq (q / 16 ^ k) (process / 16 ^ k)) [
      | inl eq ↦ first ∙ put_inside old now level k tree process number below q numbers refl lt lower each eq
      | inr ne ↦ first
          ∙ put_outside old now level k tree process number below q numbers refl keeps lt is_tree each ne
    ]

-- a number is a tree of height 0, of one process
pub put_low : (rows : List (List ℕ)) (level tree process number q : ℕ) → level ≡ 0 → process < 16 ^ level → q < 16 ^ level →
    tree_says rows level number q ≡ (if q == process then number else tree_says rows level tree q)
unfolding tree_says
put_low rows zero tree process number q e low low' = sym (cond-true (q == process) number tree (eq-eqb q process (omega (arith, low, low'))))
put_low rows (suc k) tree process number q e low low' = absurd (omega (arith, e))
