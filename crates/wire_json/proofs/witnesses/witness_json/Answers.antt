use Rattle.std.proofs.Common.{refl}
use Rattle.std.proofs.lemmas.Result.{IfOk-weaker}
use Rattle.serde_json.specs.View.{view}
use Rattle.wire_scripts.specs.Scripts.{numbers_of}
use Rattle.wire_json.proofs.WitnessTexts.{witness_told}
use Rattle.wire_json.proofs.witnesses.witness_json.Goals as goal

pub returns : goal.returns
returns c = IfOk-weaker c.tree_line.result _ _
    (λ text told. witness_told _ text.items told c.args.scripts.now c.args.call c.args.first.end.now c.args.second.end.now
    (numbers_of c.args.first.order.now) (numbers_of c.args.second.order.now) (view c.in_ok-before.before) (view c.in_ok-after.after) (view c.in_ok-shown.shown)
    refl c.in_ok-before.ensures c.in_ok-after.ensures c.in_ok-shown.ensures)
    (c.tree_line.ensures _ c.witness_tree.ensures)
