use Rattle.std.proofs.Common.{◌≡◌, ◌∙◌, ◌<◌, ◌-◌, ◌^◌, ℕ, length, max, sym, ap, subst, arith, rules, slice_index, refl}
use Rattle.wire_clocks.specs.Rows.{tree_says, entry, IsTree}
use Rattle.wire_clocks.proofs.Growing.{tree_there, tree_low, row_tree, both_ok, tree_kept, zero_kept, tree_of_zeros, keeps_itself, zeros}
use Rattle.wire_clocks.proofs.Joining.{Joins, joins_step, joins_says, joins_numbers, subtrees, join_low, join_same, join_zero_left, join_zero_right}
use Rattle.wire_clocks.proofs.rows.+join.Goals as goal
use Rattle.wire_clocks.proofs.rows.+join.Goals.{then-left-right-via-then-left-right, then-left-right-via-else-left-right+then-right-eq0}

pub returns-then-level-eq0-clause-says : goal.returns-then-level-eq0-clause-says
returns-then-level-eq0-clause-says t c =
    λ q low. join_low c.args.rows.now.items c.args.level c.args.left c.args.right c.max.result q c.if-level-eq0.true (search rules)

pub returns-then-left-right-clause-says : goal.returns-then-left-right-clause-says
returns-then-left-right-clause-says t c = λ q low.
    elim c.then-left-right.branch [
      | then-left-right-via-then-left-right w ↦ join_same c.args.rows.now.items c.args.level c.args.left c.args.right q w.if-left-right.true
      | then-left-right-via-else-left-right+then-right-eq0 w ↦ join_zero_right c.args.rows.now.items c.requires.zero c.args.level c.args.left c.args.right q w.if-right-eq0.true
    ]

pub returns-then-left-eq0-clause-says : goal.returns-then-left-eq0-clause-says
returns-then-left-eq0-clause-says t c = λ q low. join_zero_left c.args.rows.now.items c.requires.zero c.args.level c.args.left c.args.right q c.if-left-eq0.true

pub numbers-lefts-requires : goal.numbers-lefts-requires
numbers-lefts-requires t c = omega (arith, ap length c.deref.ensures.value, tree_there c.args.rows.now.items c.args.level c.args.left (omega arith) c.requires.left)

pub numbers-rights-requires : goal.numbers-rights-requires
numbers-rights-requires t c = omega (arith, ap length c.deref-2.ensures.value, tree_there c.args.rows.now.items c.args.level c.args.right (omega arith) c.requires.right)

pub each-init : goal.each-init
each-init t c =
    let old = c.args.rows.now.items in
    record {
      keeps = keeps_itself old;
      width = refl;
      trees = λ j. subst (IsTree old (c.args.level - 1)) (sym (zeros 16 j)) (tree_of_zeros old c.requires.zero (c.args.level - 1));
      says = λ j q below inside. absurd (omega (arith, below));
    }

pub join-requires : goal.join-requires
join-requires t c =
    let old = c.args.rows.now.items in
    let now = c.each.rows.items in
    let k = c.args.level - 1 in
    let keeps = c.each.invariant.keeps in
    let lefts_are : (i : ℕ) → slice_index c.numbers-lefts.result i ≡ entry old c.args.left i = λ i. c.numbers-lefts.ensures.each i ∙ ap (λ ns. entry ns c.args.left i) c.deref.ensures.value in
    let rights_are : (i : ℕ) → slice_index c.numbers-rights.result i ≡ entry old c.args.right i = λ i. c.numbers-rights.ensures.each i ∙ ap (λ ns. entry ns c.args.right i) c.deref-2.ensures.value in
    let left = subtrees old c.args.level c.args.left c.numbers-lefts.result (omega arith) c.requires.left lefts_are c.each.i in
    let right = subtrees old c.args.level c.args.right c.numbers-rights.result (omega arith) c.requires.right rights_are c.each.i in (
      omega arith,
      (
        omega arith,
        (
          zero_kept old now keeps c.requires.zero,
          (
            tree_kept old now keeps k (slice_index c.numbers-lefts.result c.each.i) left,
            tree_kept old now keeps k
                (slice_index c.numbers-rights.result c.each.i) right,
          ),
        ),
      ),
    )

pub each-preserved : goal.each-preserved
each-preserved t c =
    let old = c.args.rows.now.items in
    let lefts_are : (i : ℕ) → slice_index c.numbers-lefts.result i ≡ entry old c.args.left i = λ i. c.numbers-lefts.ensures.each i ∙ ap (λ ns. entry ns c.args.left i) c.deref.ensures.value in
    let rights_are : (i : ℕ) → slice_index c.numbers-rights.result i ≡ entry old c.args.right i = λ i. c.numbers-rights.ensures.each i ∙ ap (λ ns. entry ns c.args.right i) c.deref-2.ensures.value in
    joins_step old c.each.rows.items c.join.new.rows.items (c.args.level - 1) c.each.i c.in_ok-number.number c.numbers-lefts.result c.numbers-rights.result c.each.joined c.each.invariant
    (omega arith) (subtrees old c.args.level c.args.left c.numbers-lefts.result (omega arith) c.requires.left lefts_are)
    (subtrees old c.args.level c.args.right c.numbers-rights.result (omega arith) c.requires.right rights_are) c.in_ok-number.ensures.keeps c.in_ok-number.ensures.tree
    c.in_ok-number.ensures.says

pub row_of-requires-clause-left : goal.row_of-requires-clause-left
row_of-requires-clause-left t c = tree_there c.args.rows.now.items c.args.level c.args.left (omega arith) c.requires.left

pub row_of-requires-clause-right : goal.row_of-requires-clause-right
row_of-requires-clause-right t c = tree_there c.args.rows.now.items c.args.level c.args.right (omega arith) c.requires.right

pub row_of-requires-2-clause-left : goal.row_of-requires-2-clause-left
row_of-requires-2-clause-left t c = omega (arith, c.each.invariant.keeps.longer, tree_there c.args.rows.now.items c.args.level c.args.left (omega arith) c.requires.left)

pub row_of-requires-2-clause-right : goal.row_of-requires-2-clause-right
row_of-requires-2-clause-right t c = omega (arith, c.each.invariant.keeps.longer, tree_there c.args.rows.now.items c.args.level c.args.right (omega arith) c.requires.right)

pub returns-then-level-eq1-clause-tree : goal.returns-then-level-eq1-clause-tree
returns-then-level-eq1-clause-tree t c =
    let old = c.args.rows.now.items in
    let new = c.row_of.new.rows.items in
    let joined = c.greater_numbers.result in
    let low : c.args.level - 1 ≡ 0 = omega arith in
    both_ok c.row_of.result (λ n. n < length new) (λ n. (i : ℕ) → entry new n i ≡ slice_index joined i) (λ n. IsTree new c.args.level n)
    (λ n there each. row_tree old new c.args.level n joined c.row_of.ensures.keeps (omega arith) there each (λ i. tree_low old (c.args.level - 1) (slice_index joined i) low))
    c.row_of.ensures.there c.row_of.ensures.row

pub returns-then-level-eq1-clause-says : goal.returns-then-level-eq1-clause-says
returns-then-level-eq1-clause-says t c =
    let old = c.args.rows.now.items in
    let new = c.row_of.new.rows.items in
    let joined = c.greater_numbers.result in
    let low : c.args.level - 1 ≡ 0 = omega arith in
    let lefts_are : (i : ℕ) → slice_index c.numbers-lefts.result i ≡ entry old c.args.left i = λ i. c.numbers-lefts.ensures.each i ∙ ap (λ ns. entry ns c.args.left i) c.deref.ensures.value in
    let rights_are : (i : ℕ) → slice_index c.numbers-rights.result i ≡ entry old c.args.right i = λ i. c.numbers-rights.ensures.each i ∙ ap (λ ns. entry ns c.args.right i) c.deref-2.ensures.value in
    let joins : Joins old old (c.args.level - 1) c.numbers-lefts.result c.numbers-rights.result joined 16 = joins_numbers old
    (c.args.level - 1) c.numbers-lefts.result c.numbers-rights.result joined low c.greater_numbers.ensures.width c.greater_numbers.ensures.each in
    both_ok c.row_of.result (λ n. n < length new) (λ n. (i : ℕ) → entry new n i ≡ slice_index joined i) (λ n. (q : ℕ) → q < 16 ^ c.args.level →
    tree_says new c.args.level n q ≡ max (tree_says old c.args.level c.args.left q) (tree_says old c.args.level c.args.right q))
    (λ n there each. joins_says old old new c.args.level c.args.left c.args.right n c.numbers-lefts.result c.numbers-rights.result joined
    (omega arith) joins lefts_are rights_are c.row_of.ensures.keeps each) c.row_of.ensures.there c.row_of.ensures.row

pub returns-clause-tree : goal.returns-clause-tree
returns-clause-tree t c =
    let now = c.each.rows.items in
    let new = c.row_of-2.new.rows.items in
    let joined = c.each.joined in
    both_ok c.row_of-2.result (λ n. n < length new) (λ n. (i : ℕ) → entry new n i ≡ slice_index joined i) (λ n. IsTree new c.args.level n)
    (λ n there each. row_tree now new c.args.level n joined c.row_of-2.ensures.keeps (omega arith) there each c.each.invariant.trees) c.row_of-2.ensures.there c.row_of-2.ensures.row

pub returns-clause-says : goal.returns-clause-says
returns-clause-says t c =
    let old = c.args.rows.now.items in
    let now = c.each.rows.items in
    let new = c.row_of-2.new.rows.items in
    let joined = c.each.joined in
    let lefts_are : (i : ℕ) → slice_index c.numbers-lefts.result i ≡ entry old c.args.left i = λ i. c.numbers-lefts.ensures.each i ∙ ap (λ ns. entry ns c.args.left i) c.deref.ensures.value in
    let rights_are : (i : ℕ) → slice_index c.numbers-rights.result i ≡ entry old c.args.right i = λ i. c.numbers-rights.ensures.each i ∙ ap (λ ns. entry ns c.args.right i) c.deref-2.ensures.value in
    let all : c.each.i ≡ 16 = omega arith in
    let joins : Joins old now (c.args.level - 1) c.numbers-lefts.result c.numbers-rights.result joined 16 = subst
    (Joins old now (c.args.level - 1) c.numbers-lefts.result c.numbers-rights.result joined) all c.each.invariant in
    both_ok c.row_of-2.result (λ n. n < length new) (λ n. (i : ℕ) → entry new n i ≡ slice_index joined i) (λ n. (q : ℕ) → q < 16 ^ c.args.level →
    tree_says new c.args.level n q ≡ max (tree_says old c.args.level c.args.left q) (tree_says old c.args.level c.args.right q))
    (λ n there each. joins_says old now new c.args.level c.args.left c.args.right n c.numbers-lefts.result c.numbers-rights.result joined
    (omega arith) joins lefts_are rights_are c.row_of-2.ensures.keeps each) c.row_of-2.ensures.there c.row_of-2.ensures.row
