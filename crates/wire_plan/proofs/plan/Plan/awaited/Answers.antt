use Rattle.std.proofs.Common.{◌∙◌, ap, sym, subst, Some, eq-eqb}
use Rattle.std.proofs.lemmas.Bool.{true≢false, eqb-true}
use Rattle.wire_runs.specs.Plan.{event_of}
use Rattle.wire_scripts.specs.Planned.{plan_of}
use Rattle.wire_plan.specs.Kinds.{kind_of}
use Rattle.wire_plan.specs.Keys.{AreKeysOf}
use Rattle.wire_plan.specs.Tables.{AreNameCallsOf}
use Rattle.wire_plan.specs.declared.plan.PlanTables.{PlanTables}
use Rattle.wire_plan.proofs.Awaited.{own_key, key_of_other, once_name, awaits_other}
use Rattle.wire_plan.proofs.plan.Plan.awaited.Goals as goal

pub returns-then-eq : goal.returns-then-eq
returns-then-eq c =
    own_key (plan_of c.args.self.now) (event_of c.args.event) c.in-Get.owner.number c.in-Get.key
    (c.kind.ensures ∙ ap (λ k. Some (kind_of c.args.self.now.sets k)) c.in-Get.is)
    (eqb-true c.in-Get.owner.number c.args.event.proc.number (sym c.if-eq.ensures))

pub returns-else-eq : goal.returns-else-eq
returns-else-eq c =
    key_of_other (plan_of c.args.self.now) (event_of c.args.event) c.in-Get.owner c.in-Get.key c.feeding_commit.result
    (c.kind.ensures ∙ ap (λ k. Some (kind_of c.args.self.now.sets k)) c.in-Get.is)
    (λ same. true≢false (sym (eq-eqb c.in-Get.owner.number c.args.event.proc.number same) ∙ sym c.if-eq.ensures))
    (c.feeding_commit.ensures (plan_of c.args.self.now) (subst (λ (t : PlanTables). AreKeysOf (plan_of c.args.self.now) t.index.keys) (sym c.deref.ensures)
    (subst (λ s. AreKeysOf (plan_of s) c.self.inside.tables.value.index.keys) c.self.view_is c.self.invariant.1.keys)))

pub returns-in-LookupWait : goal.returns-in-LookupWait
returns-in-LookupWait c =
    once_name (plan_of c.args.self.now) (event_of c.args.event) c.in-LookupWait.name c.once_published.result
    (c.kind.ensures ∙ ap (λ k. Some (kind_of c.args.self.now.sets k)) c.in-LookupWait.is)
    (c.once_published.ensures (plan_of c.args.self.now) (subst (λ (t : PlanTables). AreNameCallsOf (plan_of c.args.self.now) t.index.names) (sym c.deref-in-LookupWait.ensures)
    (subst (λ s. AreNameCallsOf (plan_of s) c.self.inside.tables.value.index.names) c.self.view_is c.self.invariant.1.names)))

pub returns-in_default : goal.returns-in_default
returns-in_default c = awaits_other (plan_of c.args.self.now) (event_of c.args.event) c.args.self.now.sets c.kind.result c.kind.ensures c.in_default.not-Get c.in_default.not-LookupWait
