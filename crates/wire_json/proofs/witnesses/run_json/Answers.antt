use Rattle.std.proofs.lemmas.Result.{IfOk-weaker}
use Rattle.serde_json.specs.View.{view}
use Rattle.wire_scripts.specs.Scripts.{numbers_of}
use Rattle.wire_json.proofs.WitnessTexts.{run_told}
use Rattle.wire_json.proofs.witnesses.run_json.Goals as goal

pub returns : goal.returns
returns c = IfOk-weaker c.tree_text.result _ _
    (λ text told. run_told (view c.in_ok-tree.tree) text.items told c.args.scripts.now c.args.run.end.now (numbers_of c.args.run.order.now) c.in_ok-tree.ensures)
    c.tree_text.ensures
