use Rattle.std.proofs.Common.{◌≡◌, ◌==◌, ◌<◌, ◌/◌, ℕ, max, refl, sym, subst}
use Rattle.std.proofs.lemmas.Result.{IfOk-weaker}
use Rattle.std.specs.Prelude.{IfOk, if◌then◌else◌}
use Rattle.wire_clocks.specs.Notes.{IsTopOf}
use Rattle.wire_clocks.specs.ClockTrees.{says, Holds}
use Rattle.wire_clocks.specs.Trees.{clocks_of}
use Rattle.wire_clocks.proofs.Standing.{tree_given, trees_kept, given_stay, root_made}
use Rattle.wire_clocks.proofs.Made.{raised_says}
use Rattle.wire_clocks.proofs.trees.ClockTrees.raise_tree.Goals as goal

pub put-requires-clause-tree : goal.put-requires-clause-tree
put-requires-clause-tree c =
    tree_given c.self.inside.rows.items c.self.inside.notes.items c.self.inside.levels c.args.root c.args.self.now c.self.invariant c.self.view_is c.requires.root c.requires.tree

pub returns-in_err-tree-clause-keeps : goal.returns-in_err-tree-clause-keeps
returns-in_err-tree-clause-keeps c =
    given_stay c.self.inside.rows.items c.put.new.rows.items c.self.inside.notes.items c.self.inside.levels c.args.self.now c.self.invariant c.self.view_is c.in_err-tree.ensures.keeps

pub returns-clause-keeps : goal.returns-clause-keeps
returns-clause-keeps c =
    given_stay c.self.inside.rows.items c.put.new.rows.items c.self.inside.notes.items c.self.inside.levels c.args.self.now c.self.invariant c.self.view_is c.in_ok-tree.ensures.keeps

pub returns-clause-root : goal.returns-clause-root
returns-clause-root c =
    root_made c.self.inside.rows.items c.put.new.rows.items c.self.inside.notes.items c.self.inside.levels c.in_ok-tree.tree c.root_of.result c.self.invariant c.in_ok-tree.ensures.keeps
    c.in_ok-tree.ensures.tree c.root_of.ensures

pub returns-clause-says : goal.returns-clause-says
returns-clause-says c =
    let old = c.self.inside.rows.items in
    let new = c.put.new.rows.items in
    let notes = c.self.inside.notes.items in
    let height = c.self.inside.levels in
    let root = c.args.root in
    let process = c.args.process in
    let number = c.args.number in
    let tree = c.in_ok-tree.tree in
    subst (λ clocks. IfOk c.root_of.result (λ r. (q : ℕ) → says (clocks_of new notes height) r q ≡ (if q == process then max (says clocks root q) number else says clocks root q))) c.self.view_is
    (IfOk-weaker c.root_of.result (IsTopOf tree)
    (λ r. (q : ℕ) → says (clocks_of new notes height) r q
    ≡ (if q == process then max (says (clocks_of old notes height) root q) number else says (clocks_of old notes height) root q))
    (λ r top. raised_says old new notes height (root / 2) root process number tree r c.self.invariant (trees_kept old new height c.self.invariant c.in_ok-tree.ensures.keeps)
    (record { even = c.requires.tree; half = refl }) top (subst (λ clocks. Holds clocks process) (sym c.self.view_is) c.requires.process)
    (subst (λ clocks. says clocks root process < number) (sym c.self.view_is) c.requires.lower) c.in_ok-tree.ensures.says) c.root_of.ensures)
