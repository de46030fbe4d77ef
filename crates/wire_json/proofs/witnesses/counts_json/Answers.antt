use Rattle.std.proofs.lemmas.Result.{IfOk-weaker}
use Rattle.serde_json.specs.View.{view}
use Rattle.wire_json.proofs.WitnessTexts.{counts_told}
use Rattle.wire_json.proofs.witnesses.counts_json.Goals as goal

pub returns : goal.returns
returns c = IfOk-weaker c.tree_text.result _ _ (λ text told. counts_told (view c.in_ok-tree.tree) text.items told c.args.counts c.in_ok-tree.ensures) c.tree_text.ensures
