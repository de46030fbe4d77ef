use Rattle.std.proofs.Common.{◌∙◌, ap, map, refl}
use Rattle.std.proofs.lemmas.Result.{IfOk-weaker}
use Rattle.serde_json.specs.View.{view}
use Rattle.wire_types.specs.Outcome.{ends_of}
use Rattle.wire_types.specs.Texts.{lists_of}
use Rattle.wire_scripts.specs.Scripts.{numbers_of}
use Rattle.wire_json.specs.Trees.{ranks_data}
use Rattle.wire_json.proofs.Texts.{unsettled_told}
use Rattle.wire_json.proofs.forms.unsettled_json.Goals as goal

pub returns : goal.returns
returns c = IfOk-weaker c.tree_line.result _ _
    (λ text told. unsettled_told _ text.items told c.args.scripts.now (ends_of c.args.outcome.now) (numbers_of c.args.order.now)
    (map view c.in_ok-steps.steps.items) (map view c.in_ok-ranks.ranks.items) refl
    c.in_ok-steps.ensures
    (c.in_ok-ranks.ensures ∙ ap (λ rows. ranks_data c.args.scripts.now c.args.scripts.now.processes (lists_of rows)) c.as_slice.ensures.value))
    (c.tree_line.ensures _ c.unsettled_tree.ensures)
