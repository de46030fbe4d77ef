use Rattle.std.proofs.Common.{◌∙◌, ap, subst, option_map}
use Rattle.wire_runs.specs.Races.{IsPutOnce}
use Rattle.wire_types.specs.declared.Event.{Event}
use Rattle.wire_scripts.specs.Planned.{plan_of}
use Rattle.wire_plan.specs.declared.plan.PlanTables.{PlanTables}
use Rattle.wire_plan.specs.Index.{IsNextDelivery}
use Rattle.wire_plan.proofs.plan.Plan.next_delivery.Goals as goal

pub returns-clause-next : goal.returns-clause-next
returns-clause-next c =
    subst (λ s. IsPutOnce (plan_of s) c.args.owner.number c.args.key →
    IsNextDelivery (plan_of s) c.args.owner.number c.args.key c.args.node c.args.from (option_map (λ (e : Event). e.at) c.next_delivery.result))
    (ap (λ (t : PlanTables). t.events) c.deref.ensures ∙ c.self.view_is) c.next_delivery.ensures.next
