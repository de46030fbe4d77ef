use Rattle.std.proofs.Common.{map, refl}
use Rattle.std.proofs.lemmas.Result.{IfOk-weaker}
use Rattle.serde_json.specs.View.{view}
use Rattle.wire_json.proofs.ChainTexts.{chain_told}
use Rattle.wire_json.proofs.chains.chain_json.Goals as goal

pub returns : goal.returns
returns c = IfOk-weaker c.tree_line.result _ _
    (λ text told. chain_told _ text.items told c.args.scripts.now c.args.first c.which_word.result.now c.args.steps.now (map view c.in_ok-chain.chain.items)
    refl c.which_word.ensures c.in_ok-chain.ensures)
    (c.tree_line.ensures _ c.chain_tree.ensures)
