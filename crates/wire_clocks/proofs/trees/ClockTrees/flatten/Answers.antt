use Rattle.std.proofs.Common.{◌≡◌, ◌∙◌, ◌<◌, ◌^◌, ℕ, sym, ap, subst}
use Rattle.std.proofs.lemmas.Result.{IfOk-weaker}
use Rattle.std.specs.Prelude.{IfOk, true}
use Rattle.wire_clocks.specs.Rows.{tree_says}
use Rattle.wire_clocks.specs.Notes.{clock_number, clock_stands, IsTopOf}
use Rattle.wire_clocks.specs.ClockTrees.{says}
use Rattle.wire_clocks.specs.Trees.{clocks_of}
use Rattle.wire_clocks.proofs.Standing.{clock_given, trees_kept, given_stay, root_made}
use Rattle.wire_clocks.proofs.Made.{flattened_says}
use Rattle.wire_clocks.proofs.trees.ClockTrees.flatten.Goals as goal

pub flatten-requires-clause-root : goal.flatten-requires-clause-root
flatten-requires-clause-root c =
    subst (λ notes. clock_stands c.self.inside.rows.items notes c.self.inside.levels 16 c.args.root ≡ true) (sym c.deref.ensures.value)
    (clock_given c.self.inside.rows.items c.self.inside.notes.items c.self.inside.levels c.args.root c.args.self.now c.self.view_is c.requires)

pub returns-in_err-tree-clause-keeps : goal.returns-in_err-tree-clause-keeps
returns-in_err-tree-clause-keeps c =
    given_stay c.self.inside.rows.items c.flatten.new.rows.items c.self.inside.notes.items c.self.inside.levels c.args.self.now c.self.invariant c.self.view_is c.in_err-tree.ensures.keeps

pub returns-clause-keeps : goal.returns-clause-keeps
returns-clause-keeps c =
    given_stay c.self.inside.rows.items c.flatten.new.rows.items c.self.inside.notes.items c.self.inside.levels c.args.self.now c.self.invariant c.self.view_is c.in_ok-tree.ensures.keeps

pub returns-clause-root : goal.returns-clause-root
returns-clause-root c =
    root_made c.self.inside.rows.items c.flatten.new.rows.items c.self.inside.notes.items c.self.inside.levels c.in_ok-tree.tree c.root_of.result c.self.invariant c.in_ok-tree.ensures.keeps
    c.in_ok-tree.ensures.tree c.root_of.ensures

pub returns-clause-says : goal.returns-clause-says
returns-clause-says c =
    let old = c.self.inside.rows.items in
    let new = c.flatten.new.rows.items in
    let notes = c.self.inside.notes.items in
    let height = c.self.inside.levels in
    let root = c.args.root in
    let tree = c.in_ok-tree.tree in
    let each : (q : ℕ) → q < 16 ^ height → tree_says new height tree q ≡ clock_number old notes height 16 root q = λ q low.
    c.in_ok-tree.ensures.says q low ∙ ap (λ these. clock_number old these height 16 root q) c.deref.ensures.value in
    subst (λ clocks. IfOk c.root_of.result (λ r. (q : ℕ) → says (clocks_of new notes height) r q ≡ says clocks root q)) c.self.view_is
    (IfOk-weaker c.root_of.result (IsTopOf tree) (λ r. (q : ℕ) → says (clocks_of new notes height) r q ≡ says (clocks_of old notes height) root q)
    (λ r top. flattened_says old new notes height root tree r c.self.invariant (trees_kept old new height c.self.invariant c.in_ok-tree.ensures.keeps) top each) c.root_of.ensures)
