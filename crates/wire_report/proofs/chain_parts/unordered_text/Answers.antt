use Rattle.std.proofs.Common.{◌∙◌}
use Rattle.std.proofs.lemmas.Result.{IfOk-weaker}
use Rattle.wire_report.specs.Chain.{unordered_form}
use Rattle.wire_report.proofs.chain_parts.unordered_text.Goals as goal

pub returns-clause-ok : goal.returns-clause-ok
returns-clause-ok c =
    IfOk-weaker c.dead_text.result _ _
    (λ text e. (c.in_ok-dead.dead.items, c.in_ok-dead.ensures, e ∙ (λ i. unordered_form c.args.json ((rw c.plan.ensures at c.scripts.ensures.scripts) i) (c.as_slice.ensures.value i))))
    c.dead_text.ensures.ok
