use Rattle.std.proofs.Common.{map, refl}
use Rattle.std.proofs.lemmas.Result.{IfOk-weaker}
use Rattle.serde_json.specs.View.{view}
use Rattle.wire_types.specs.Texts.{lists_of}
use Rattle.wire_json.proofs.Texts.{findings_told}
use Rattle.wire_json.proofs.forms.findings_json.Goals as goal

pub returns : goal.returns
returns c = IfOk-weaker c.tree_line.result _ _
    (λ text told. findings_told _ text.items told (lists_of c.args.lines.now) (map view c.in_ok-findings.findings.items)
    refl c.in_ok-findings.ensures)
    (c.tree_line.ensures _ c.findings_tree.ensures)
