use Rattle.std.proofs.Common.{◌∙◌, sym}
use Rattle.wire_clocks.proofs.Noting.{none_at, tree_stands, tree_number, top_tree}
use Rattle.wire_clocks.proofs.notes.flatten.Goals as goal

pub returns-then-root-eq0-clause-tree : goal.returns-then-root-eq0-clause-tree
returns-then-root-eq0-clause-tree c =
    let rows = c.args.rows.now.items in
    let notes = c.args.notes.now in
    top_tree rows c.requires.zero c.args.levels c.args.root (sym (tree_stands rows notes c.args.levels 16 c.args.root (none_at notes c.args.root c.if-root-eq0.true)) ∙ c.requires.root)

pub returns-then-root-eq0-clause-says : goal.returns-then-root-eq0-clause-says
returns-then-root-eq0-clause-says c = λ q low.
    sym (tree_number c.args.rows.now.items c.args.notes.now c.args.levels 16 c.args.root q (none_at c.args.notes.now c.args.root c.if-root-eq0.true))
