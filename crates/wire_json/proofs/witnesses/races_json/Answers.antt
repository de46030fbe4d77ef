use Rattle.std.proofs.Common.{map, refl}
use Rattle.std.proofs.lemmas.Result.{IfOk-weaker}
use Rattle.serde_json.specs.View.{view}
use Rattle.wire_types.specs.Texts.{lists_of}
use Rattle.wire_json.proofs.WitnessTexts.{races_told}
use Rattle.wire_json.proofs.witnesses.races_json.Goals as goal

pub returns : goal.returns
returns c = IfOk-weaker c.tree_line.result _ _
    (λ text told. races_told _ text.items told c.args.scripts.now (lists_of c.args.findings.now) c.args.shown.now c.args.counts
    (view c.in_ok-numbers.numbers) (map view c.in_ok-races.races.items) refl c.in_ok-numbers.ensures c.in_ok-races.ensures)
    (c.tree_line.ensures _ c.races_tree.ensures)
