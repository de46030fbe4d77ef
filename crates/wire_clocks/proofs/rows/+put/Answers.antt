use Rattle.std.proofs.Common.{◌≡◌, ◌∙◌, ◌<◌, ◌-◌, ◌==◌, ◌^◌, ◌/◌, ◌%◌, ℕ, length, sym, ap, subst, arith, slice_index, ◌+◌}
use Rattle.std.specs.Prelude.{if◌then◌else◌}
use Rattle.wire_clocks.specs.Rows.{tree_says, entry, IsTree}
use Rattle.wire_clocks.proofs.Growing.{tree_low, tree_down, tree_there, rest_low, place_low, row_tree, both_ok}
use Rattle.wire_clocks.proofs.Putting.{put_low, put_trees, put_says}
use Rattle.wire_clocks.proofs.rows.+put.Goals as goal

pub returns-then-level-eq0-clause-tree : goal.returns-then-level-eq0-clause-tree
returns-then-level-eq0-clause-tree t c = tree_low c.args.rows.now.items c.args.level c.args.number c.if-level-eq0.true

pub returns-then-level-eq0-clause-says : goal.returns-then-level-eq0-clause-says
returns-then-level-eq0-clause-says t c =
    λ q low. put_low c.args.rows.now.items c.args.level c.args.tree c.args.process c.args.number q c.if-level-eq0.true c.requires.process low

pub put-requires : goal.put-requires
put-requires t c =
    let rows = c.args.rows.now.items in
    let k = c.args.level - 1 in
    let is : c.entry-old.result ≡ entry rows c.args.tree c.place-at.result = c.entry-old.ensures ∙ ap (λ ns. entry ns c.args.tree c.place-at.result) c.deref.ensures.value in (
      omega arith,
      (
        omega arith,
        (
          c.requires.zero,
          (
            subst (IsTree rows k) (sym is) (tree_down rows c.args.level c.args.tree (omega arith) c.requires.tree c.place-at.result),
            omega
                (arith, c.place_below.ensures, rest_low k c.args.process),
          ),
        ),
      ),
    )

pub change_number-row-requires-clause-there : goal.change_number-row-requires-clause-there
change_number-row-requires-clause-there t c =
    omega (arith, ap length c.deref-2.ensures.value, c.put.ensures.keeps.longer, tree_there c.args.rows.now.items c.args.level c.args.tree (omega arith) c.requires.tree)

pub change_number-row-requires-clause-place : goal.change_number-row-requires-clause-place
change_number-row-requires-clause-place t c = omega (arith, c.place-at.ensures, place_low c.args.level c.args.process (omega arith) c.requires.process)

pub returns-clause-tree : goal.returns-clause-tree
returns-clause-tree t c =
    let old = c.args.rows.now.items in
    let now = c.put.new.rows.items in
    let new = c.add.new.rows.items in
    let row = c.change_number-row.result in
    let k = c.args.level - 1 in
    let each : (i : ℕ) → slice_index row i ≡ (if i == c.args.process / 16 ^ k then c.in_ok-new.new else entry now c.args.tree i) = λ i. c.change_number-row.ensures i
    ∙ ap (λ p. if i == p then c.in_ok-new.new else entry c.deref-2.result.now c.args.tree i) c.place-at.ensures
    ∙ ap (λ ns. if i == c.args.process / 16 ^ k then c.in_ok-new.new else entry ns c.args.tree i) c.deref-2.ensures.value in
    let trees = put_trees old now c.args.level c.args.tree (c.args.process / 16 ^ k) c.in_ok-new.new row c.in_ok-new.ensures.keeps (omega arith) c.requires.tree c.in_ok-new.ensures.tree each in
    both_ok c.add.result (λ n. n < length new) (λ n. (i : ℕ) → entry new n i ≡ slice_index row i) (λ n. IsTree new c.args.level n)
    (λ n there is. row_tree now new c.args.level n row c.add.ensures.keeps (omega arith) there is trees) c.add.ensures.there c.add.ensures.row

pub returns-clause-says : goal.returns-clause-says
returns-clause-says t c =
    let old = c.args.rows.now.items in
    let now = c.put.new.rows.items in
    let new = c.add.new.rows.items in
    let row = c.change_number-row.result in
    let k = c.args.level - 1 in
    let each : (i : ℕ) → slice_index row i ≡ (if i == c.args.process / 16 ^ k then c.in_ok-new.new else entry now c.args.tree i) = λ i. c.change_number-row.ensures i
    ∙ ap (λ p. if i == p then c.in_ok-new.new else entry c.deref-2.result.now c.args.tree i) c.place-at.ensures
    ∙ ap (λ ns. if i == c.args.process / 16 ^ k then c.in_ok-new.new else entry ns c.args.tree i) c.deref-2.ensures.value in
    let is_old : c.entry-old.result ≡ entry old c.args.tree (c.args.process / 16 ^ k) = c.entry-old.ensures ∙ ap (λ ns. entry ns c.args.tree c.place-at.result) c.deref.ensures.value
    ∙ ap (entry old c.args.tree) c.place-at.ensures in
    let below : (r : ℕ) → r < 16 ^ k → tree_says now k c.in_ok-new.new r ≡ (if r == c.args.process % 16 ^ k then c.args.number else tree_says old k
    (entry old c.args.tree (c.args.process / 16 ^ k)) r) = λ r low. c.in_ok-new.ensures.says r low
    ∙ ap (λ p. if r == p then c.args.number else tree_says old k c.entry-old.result r) c.place_below.ensures
    ∙ ap (λ n. if r == c.args.process % 16 ^ k then c.args.number else tree_says old k n r) is_old in
    both_ok c.add.result (λ n. n < length new) (λ n. (i : ℕ) → entry new n i ≡ slice_index row i) (λ n. (q : ℕ) → q < 16 ^ c.args.level →
    tree_says new c.args.level n q ≡ (if q == c.args.process then c.args.number else tree_says old c.args.level c.args.tree q))
    (λ n there is. λ q low. put_says old now new c.args.level c.args.tree c.args.process c.args.number c.in_ok-new.new n row c.in_ok-new.ensures.keeps c.add.ensures.keeps
    (omega arith) c.requires.tree c.in_ok-new.ensures.tree below each is q) c.add.ensures.there c.add.ensures.row

pub returns-clause-above : goal.returns-clause-above
returns-clause-above t c =
    let old = c.args.rows.now.items in
    let now = c.put.new.rows.items in
    let new = c.add.new.rows.items in
    let row = c.change_number-row.result in
    let k = c.args.level - 1 in
    let each : (i : ℕ) → slice_index row i ≡ (if i == c.args.process / 16 ^ k then c.in_ok-new.new else entry now c.args.tree i) = λ i. c.change_number-row.ensures i
    ∙ ap (λ p. if i == p then c.in_ok-new.new else entry c.deref-2.result.now c.args.tree i) c.place-at.ensures
    ∙ ap (λ ns. if i == c.args.process / 16 ^ k then c.in_ok-new.new else entry ns c.args.tree i) c.deref-2.ensures.value in
    let is_old : c.entry-old.result ≡ entry old c.args.tree c.place-at.result = c.entry-old.ensures ∙ ap (λ ns. entry ns c.args.tree c.place-at.result) c.deref.ensures.value in
    both_ok c.add.result (λ n. n < length new) (λ n. (i : ℕ) → entry new n i ≡ slice_index row i) (λ n. (h : ℕ) → IsTree old (c.args.level + h) c.args.tree → IsTree old h c.args.number →
    IsTree new (c.args.level + h) n) (λ n there is. λ h tree number.
    let e : k + h ≡ c.args.level + h - 1 = omega arith in
    let sub : IsTree old (c.args.level + h - 1) c.entry-old.result = subst (IsTree old (c.args.level + h - 1)) (sym is_old)
    (tree_down old (c.args.level + h) c.args.tree (omega arith) tree c.place-at.result) in
    let below : IsTree now (c.args.level + h - 1) c.in_ok-new.new = subst (λ j. IsTree now j c.in_ok-new.new) e
    (c.in_ok-new.ensures.above h (subst (λ j. IsTree old j c.entry-old.result) (sym e) sub) number) in
    row_tree now new (c.args.level + h) n row c.add.ensures.keeps (omega arith) there is (put_trees old now (c.args.level + h) c.args.tree
    (c.args.process / 16 ^ k) c.in_ok-new.new row c.in_ok-new.ensures.keeps (omega arith) tree below each)) c.add.ensures.there c.add.ensures.row
