use Rattle.std.proofs.Common.{◌≡◌, ◌==◌, ◌*◌, ◌/◌, ◌%◌, ℕ, slice_index, max, refl, sym, subst}
use Rattle.std.proofs.lemmas.Result.{IfOk-weaker}
use Rattle.std.specs.Prelude.{IfOk, if◌then◌else◌}
use Rattle.wire_clocks.specs.Notes.{IsTopOf}
use Rattle.wire_clocks.specs.ClockTrees.{says, Holds}
use Rattle.wire_clocks.specs.Trees.{clocks_of}
use Rattle.wire_clocks.proofs.Standing.{tree_given, trees_kept, given_stay, root_made}
use Rattle.wire_clocks.proofs.Made.{block_raised_says}
use Rattle.wire_clocks.proofs.trees.ClockTrees.raise_tree_block.Goals as goal

pub raise_block-requires-clause-root : goal.raise_block-requires-clause-root
raise_block-requires-clause-root c =
    tree_given c.self.inside.rows.items c.self.inside.notes.items c.self.inside.levels c.args.root c.args.self.now c.self.invariant c.self.view_is c.requires.root c.requires.tree

pub returns-in_err-tree-clause-keeps : goal.returns-in_err-tree-clause-keeps
returns-in_err-tree-clause-keeps c =
    given_stay c.self.inside.rows.items c.raise_block.new.rows.items c.self.inside.notes.items c.self.inside.levels c.args.self.now c.self.invariant c.self.view_is c.in_err-tree.ensures.keeps

pub returns-clause-keeps : goal.returns-clause-keeps
returns-clause-keeps c =
    given_stay c.self.inside.rows.items c.raise_block.new.rows.items c.self.inside.notes.items c.self.inside.levels c.args.self.now c.self.invariant c.self.view_is c.in_ok-tree.ensures.keeps

pub returns-clause-root : goal.returns-clause-root
returns-clause-root c =
    root_made c.self.inside.rows.items c.raise_block.new.rows.items c.self.inside.notes.items c.self.inside.levels c.in_ok-tree.tree c.root_of.result c.self.invariant c.in_ok-tree.ensures.keeps
    c.in_ok-tree.ensures.tree c.root_of.ensures

pub returns-clause-says : goal.returns-clause-says
returns-clause-says c =
    let old = c.self.inside.rows.items in
    let new = c.raise_block.new.rows.items in
    let notes = c.self.inside.notes.items in
    let height = c.self.inside.levels in
    let root = c.args.root in
    let block = c.args.block in
    let least = c.args.least.now in
    let tree = c.in_ok-tree.tree in
    subst (λ clocks. IfOk c.root_of.result (λ r. (q : ℕ) → says (clocks_of new notes height) r q
    ≡ (if q / 16 == block then max (says clocks root q) (slice_index least (q % 16)) else says clocks root q))) c.self.view_is
    (IfOk-weaker c.root_of.result (IsTopOf tree) (λ r. (q : ℕ) → says (clocks_of new notes height) r q
    ≡ (if q / 16 == block then max (says (clocks_of old notes height) root q) (slice_index least (q % 16)) else says (clocks_of old notes height) root q))
    (λ r top. block_raised_says old new notes height (root / 2) root block tree r least c.self.invariant (trees_kept old new height c.self.invariant c.in_ok-tree.ensures.keeps)
    (record { even = c.requires.tree; half = refl }) top (subst (λ clocks. Holds clocks (16 * block)) (sym c.self.view_is) c.requires.block) c.in_ok-tree.ensures.says) c.root_of.ensures)
