use Rattle.std.proofs.Common.{refl}
use Rattle.std.proofs.lemmas.Result.{IfOk-weaker}
use Rattle.wire_json.proofs.WitnessTexts.{unshown_told}
use Rattle.wire_json.proofs.witnesses.unshown_json.Goals as goal

pub returns : goal.returns
returns c = IfOk-weaker c.tree_line.result _ _
    (λ text told. unshown_told _ text.items told c.args.race refl)
    (c.tree_line.ensures _ c.unshown_tree.ensures)
