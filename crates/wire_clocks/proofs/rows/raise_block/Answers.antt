use Rattle.std.proofs.Common.{◌≡◌, ◌∙◌, ◌<◌, ◌+◌, ◌-◌, ◌==◌, ◌^◌, ◌/◌, ◌%◌, ℕ, suc, List, length, max, sym, ap, subst, arith, slice_index}
use Rattle.std.specs.Prelude.{if◌then◌else◌}
use Rattle.std.proofs.lemmas.Result.{IfOk-weaker}
use Rattle.wire_clocks.specs.Rows.{tree_says, entry, IsTree}
use Rattle.wire_clocks.proofs.Growing.{tree_kept, says_kept, keeps_itself}
use Rattle.wire_clocks.proofs.Blocks.{lowest_there, lowest_tree, tree_above, block_row_says, block_stays}
use Rattle.wire_clocks.proofs.rows.raise_block.Goals as goal

-- the lowest row of a block is there
lowest_low : (old : List (List ℕ)) (levels root block lowest : ℕ) → 0 < levels → IsTree old levels root → lowest ≡ tree_says old (levels - 1) root block → lowest < length old
lowest_low old levels root block lowest lt tree is =
    let e : levels ≡ suc (levels - 1) = omega arith in
    subst (λ n. n < length old) (sym is) (lowest_there old (levels - 1) root block (subst (λ j. IsTree old j root) e tree))

pub numbers-stands-requires : goal.numbers-stands-requires
numbers-stands-requires c =
    let old = c.args.rows.now.items in
    let is : c.number-lowest.result ≡ tree_says old (c.args.levels - 1) c.args.root c.args.block = c.number-lowest.ensures
    ∙ ap (λ ns. tree_says ns (c.args.levels - 1) c.args.root c.args.block) c.deref.ensures.value in
    omega (arith, ap length c.deref-2.ensures.value, lowest_low old c.args.levels c.args.root c.args.block c.number-lowest.result c.requires.high c.requires.root is)

pub row_of-requires-clause-left : goal.row_of-requires-clause-left
row_of-requires-clause-left c =
    let old = c.args.rows.now.items in
    let is : c.number-lowest.result ≡ tree_says old (c.args.levels - 1) c.args.root c.args.block = c.number-lowest.ensures
    ∙ ap (λ ns. tree_says ns (c.args.levels - 1) c.args.root c.args.block) c.deref.ensures.value in
    lowest_low old c.args.levels c.args.root c.args.block c.number-lowest.result c.requires.high c.requires.root is

pub row_of-requires-clause-right : goal.row_of-requires-clause-right
row_of-requires-clause-right c =
    let old = c.args.rows.now.items in
    let is : c.number-lowest.result ≡ tree_says old (c.args.levels - 1) c.args.root c.args.block = c.number-lowest.ensures
    ∙ ap (λ ns. tree_says ns (c.args.levels - 1) c.args.root c.args.block) c.deref.ensures.value in
    lowest_low old c.args.levels c.args.root c.args.block c.number-lowest.result c.requires.high c.requires.root is

pub returns-then-raised-lowest-clause-tree : goal.returns-then-raised-lowest-clause-tree
returns-then-raised-lowest-clause-tree c = tree_kept c.args.rows.now.items c.row_of.new.rows.items c.in_ok-raised.ensures.keeps c.args.levels c.args.root c.requires.root

pub returns-then-raised-lowest-clause-says : goal.returns-then-raised-lowest-clause-says
returns-then-raised-lowest-clause-says c =
    let old = c.args.rows.now.items in
    let now = c.row_of.new.rows.items in
    let root = c.args.root in
    let block = c.args.block in
    let least = c.args.least.now in
    let k = c.args.levels - 1 in
    let e : suc k ≡ c.args.levels = omega arith in
    let keeps = c.in_ok-raised.ensures.keeps in
    let tree : IsTree old (suc k) root = subst (λ j. IsTree old j root) (sym e) c.requires.root in
    let is : c.number-lowest.result ≡ tree_says old k root block = c.number-lowest.ensures ∙ ap (λ ns. tree_says ns k root block) c.deref.ensures.value in
    let stands : (i : ℕ) → slice_index c.numbers-stands.result i ≡ entry old (tree_says old k root block) i = λ i. c.numbers-stands.ensures.each i
    ∙ ap (λ ns. entry ns c.number-lowest.result i) c.deref-2.ensures.value ∙ ap (λ n. entry old n i) is in
    let at : tree_says now k root block ≡ c.number-lowest.result = says_kept old now keeps k root (tree_above old k root tree) block ∙ sym is in
    let put = block_stays now k root block c.number-lowest.result c.in_ok-raised.raised at c.if-raised-lowest.true in
    subst (λ j. (q : ℕ) → q < 16 ^ j → tree_says now j root q ≡ (if q / 16 == block then max (tree_says old j root q) (slice_index least (q % 16)) else tree_says old j root q)) e
    (block_row_says old now now k root block c.in_ok-raised.raised root c.numbers-stands.result least c.greater_numbers.result keeps
    (keeps_itself now) tree c.in_ok-raised.ensures.there stands c.greater_numbers.ensures.each c.in_ok-raised.ensures.row put)

pub put-requires-clause-tree : goal.put-requires-clause-tree
put-requires-clause-tree c =
    let old = c.args.rows.now.items in
    let k = c.args.levels - 1 in
    let e : c.args.levels ≡ suc k = omega arith in
    tree_kept old c.row_of.new.rows.items c.in_ok-raised.ensures.keeps k c.args.root (tree_above old k c.args.root (subst (λ j. IsTree old j c.args.root) e c.requires.root))

pub returns-clause-tree : goal.returns-clause-tree
returns-clause-tree c =
    let old = c.args.rows.now.items in
    let now = c.row_of.new.rows.items in
    let new = c.put.new.rows.items in
    let k = c.args.levels - 1 in
    let e : k + 1 ≡ c.args.levels = omega arith in
    let root = tree_kept old now c.in_ok-raised.ensures.keeps c.args.levels c.args.root c.requires.root in
    IfOk-weaker c.put.result (λ t. (h : ℕ) → IsTree now (k + h) c.args.root → IsTree now h c.in_ok-raised.raised →
    IsTree new (k + h) t) (λ t. IsTree new c.args.levels t) (λ t f. subst (λ j. IsTree new j t) e
    (f 1 (subst (λ j. IsTree now j c.args.root) (sym e) root) (lowest_tree now c.in_ok-raised.raised c.in_ok-raised.ensures.there))) c.put.ensures.above

pub returns-clause-says : goal.returns-clause-says
returns-clause-says c =
    let old = c.args.rows.now.items in
    let now = c.row_of.new.rows.items in
    let new = c.put.new.rows.items in
    let root = c.args.root in
    let block = c.args.block in
    let least = c.args.least.now in
    let lowest = c.in_ok-raised.raised in
    let k = c.args.levels - 1 in
    let e : suc k ≡ c.args.levels = omega arith in
    let is : c.number-lowest.result ≡ tree_says old k root block = c.number-lowest.ensures ∙ ap (λ ns. tree_says ns k root block) c.deref.ensures.value in
    let stands : (i : ℕ) → slice_index c.numbers-stands.result i ≡ entry old (tree_says old k root block) i = λ i. c.numbers-stands.ensures.each i
    ∙ ap (λ ns. entry ns c.number-lowest.result i) c.deref-2.ensures.value ∙ ap (λ n. entry old n i) is in
    IfOk-weaker c.put.result (λ t. (b : ℕ) → b < 16 ^ k → tree_says new k t b ≡ (if b == block then lowest else tree_says now k root b)) (λ t. (q : ℕ) → q < 16 ^ c.args.levels →
    tree_says new c.args.levels t q ≡ (if q / 16 == block then max (tree_says old c.args.levels root q) (slice_index least (q % 16)) else tree_says old c.args.levels root q))
    (λ t put. subst (λ j. (q : ℕ) → q < 16 ^ j → tree_says new j t q ≡ (if q / 16 == block then max (tree_says old j root q) (slice_index least (q % 16)) else tree_says old j root q)) e
    (block_row_says old now new k root block lowest t c.numbers-stands.result least c.greater_numbers.result c.in_ok-raised.ensures.keeps c.put.ensures.keeps
    (subst (λ j. IsTree old j root) (sym e) c.requires.root) c.in_ok-raised.ensures.there stands c.greater_numbers.ensures.each c.in_ok-raised.ensures.row put)) c.put.ensures.says
