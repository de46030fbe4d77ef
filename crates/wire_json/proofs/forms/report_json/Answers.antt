use Rattle.std.proofs.Common.{◌∙◌, ap, map, refl}
use Rattle.wire_json.specs.Trees.{ranks_data}
use Rattle.std.proofs.lemmas.Result.{IfOk-weaker}
use Rattle.serde_json.specs.View.{view}
use Rattle.wire_types.specs.Outcome.{ends_of}
use Rattle.wire_types.specs.Texts.{lists_of}
use Rattle.wire_json.proofs.Texts.{report_told}
use Rattle.wire_json.proofs.forms.report_json.Goals as goal

pub returns : goal.returns
returns c = IfOk-weaker c.tree_line.result _ _
    (λ text told. report_told _ text.items told c.args.scripts.now (ends_of c.args.outcome.now) (map view c.in_ok-ranks.ranks.items) refl
    (c.in_ok-ranks.ensures ∙ ap (λ rows. ranks_data c.args.scripts.now c.args.scripts.now.processes (lists_of rows)) c.as_slice.ensures.value))
    (c.tree_line.ensures _ c.report_tree.ensures)
