use Rattle.std.proofs.Common.{◌≡◌, ◌/◌, ℕ, max, refl, subst}
use Rattle.std.proofs.lemmas.Result.{IfOk-weaker}
use Rattle.std.specs.Prelude.{IfOk}
use Rattle.wire_clocks.specs.Notes.{IsTopOf}
use Rattle.wire_clocks.specs.ClockTrees.{says}
use Rattle.wire_clocks.specs.Trees.{clocks_of}
use Rattle.wire_clocks.proofs.Standing.{tree_given, trees_kept, given_stay, root_made}
use Rattle.wire_clocks.proofs.Made.{joined_says}
use Rattle.wire_clocks.proofs.trees.ClockTrees.join_trees.Goals as goal

pub join-requires-clause-left : goal.join-requires-clause-left
join-requires-clause-left c =
    tree_given c.self.inside.rows.items c.self.inside.notes.items c.self.inside.levels c.args.left c.args.self.now c.self.invariant c.self.view_is c.requires.left c.requires.left_tree

pub join-requires-clause-right : goal.join-requires-clause-right
join-requires-clause-right c =
    tree_given c.self.inside.rows.items c.self.inside.notes.items c.self.inside.levels c.args.right c.args.self.now c.self.invariant c.self.view_is c.requires.right c.requires.right_tree

pub returns-in_err-tree-clause-keeps : goal.returns-in_err-tree-clause-keeps
returns-in_err-tree-clause-keeps c =
    given_stay c.self.inside.rows.items c.join.new.rows.items c.self.inside.notes.items c.self.inside.levels c.args.self.now c.self.invariant c.self.view_is c.in_err-tree.ensures.keeps

pub returns-clause-keeps : goal.returns-clause-keeps
returns-clause-keeps c =
    given_stay c.self.inside.rows.items c.join.new.rows.items c.self.inside.notes.items c.self.inside.levels c.args.self.now c.self.invariant c.self.view_is c.in_ok-tree.ensures.keeps

pub returns-clause-root : goal.returns-clause-root
returns-clause-root c =
    root_made c.self.inside.rows.items c.join.new.rows.items c.self.inside.notes.items c.self.inside.levels c.in_ok-tree.tree c.root_of.result c.self.invariant c.in_ok-tree.ensures.keeps
    c.in_ok-tree.ensures.tree c.root_of.ensures

pub returns-clause-says : goal.returns-clause-says
returns-clause-says c =
    let old = c.self.inside.rows.items in
    let new = c.join.new.rows.items in
    let notes = c.self.inside.notes.items in
    let height = c.self.inside.levels in
    let left = c.args.left in
    let right = c.args.right in
    let tree = c.in_ok-tree.tree in
    subst (λ clocks. IfOk c.root_of.result (λ r. (q : ℕ) → says (clocks_of new notes height) r q ≡ max (says clocks left q) (says clocks right q))) c.self.view_is
    (IfOk-weaker c.root_of.result (IsTopOf tree)
    (λ r. (q : ℕ) → says (clocks_of new notes height) r q ≡ max (says (clocks_of old notes height) left q) (says (clocks_of old notes height) right q))
    (λ r top. joined_says old new notes height (left / 2) left (right / 2) right tree r c.self.invariant (trees_kept old new height c.self.invariant c.in_ok-tree.ensures.keeps)
    (record { even = c.requires.left_tree; half = refl }) (record { even = c.requires.right_tree; half = refl }) top c.in_ok-tree.ensures.says) c.root_of.ensures)
