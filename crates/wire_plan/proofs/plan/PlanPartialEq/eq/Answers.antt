use Rattle.std.proofs.Common.{◌∙◌, ◌≡◌, sym, subst}
use Rattle.std.specs.Bool.{Decides}
use Rattle.wire_scripts.specs.Same.{same_scripts}
use Rattle.wire_scripts.proofs.Same.{scripts_decide}
use Rattle.wire_plan.proofs.plan.PlanPartialEq.eq.Goals as goal

pub returns-clause-same : goal.returns-clause-same
returns-clause-same c =
    let tested : c.eq.result ≡ same_scripts c.args.self.now c.args.other.now = c.eq.ensures ∙ (λ i. same_scripts (c.scripts.ensures.scripts i) (c.scripts-2.ensures.scripts i)) in
    subst (λ t. Decides t (c.args.self.now ≡ c.args.other.now)) (sym tested) (scripts_decide c.args.self.now c.args.other.now)
