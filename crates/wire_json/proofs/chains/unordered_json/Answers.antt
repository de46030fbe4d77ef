use Rattle.std.proofs.Common.{map, refl}
use Rattle.std.proofs.lemmas.Result.{IfOk-weaker}
use Rattle.serde_json.specs.View.{view}
use Rattle.wire_json.proofs.ChainTexts.{unordered_told}
use Rattle.wire_json.proofs.chains.unordered_json.Goals as goal

pub returns : goal.returns
returns c = IfOk-weaker c.tree_line.result _ _
    (λ text told. unordered_told _ text.items told c.args.scripts.now c.args.dead.now (map view c.in_ok-places.places.items)
    refl c.in_ok-places.ensures)
    (c.tree_line.ensures _ c.unordered_tree.ensures)
