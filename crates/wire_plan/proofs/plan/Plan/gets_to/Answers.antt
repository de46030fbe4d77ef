use Rattle.std.proofs.Common.{subst, sym}
use Rattle.wire_scripts.specs.Planned.{plan_of}
use Rattle.wire_plan.specs.Keys.{AreKeysOf}
use Rattle.wire_plan.specs.Gets.{AreGetLists}
use Rattle.wire_plan.specs.declared.plan.PlanTables.{PlanTables}
use Rattle.wire_plan.proofs.plan.Plan.gets_to.Goals as goal

pub returns : goal.returns
returns c =
    c.delivering_gets.ensures (plan_of c.args.self.now)
    (subst (λ (t : PlanTables). AreGetLists (plan_of c.args.self.now) t.index.gets) (sym c.deref.ensures)
    (subst (λ s. AreGetLists (plan_of s) c.self.inside.tables.value.index.gets) c.self.view_is c.self.invariant.1.gets))
    (subst (λ (t : PlanTables). AreKeysOf (plan_of c.args.self.now) t.index.keys) (sym c.deref-2.ensures)
    (subst (λ s. AreKeysOf (plan_of s) c.self.inside.tables.value.index.keys) c.self.view_is c.self.invariant.1.keys))
    c.event_count.ensures
