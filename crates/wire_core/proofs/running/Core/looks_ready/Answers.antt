use Rattle.std.proofs.Common.{◌≡◌, ◌∙◌, ap, sym, subst, map, Some}
use Rattle.wire_scripts.specs.Planned.{plan_of}
use Rattle.wire_plan.specs.Kinds.{kind_of}
use Rattle.wire_runs.proofs.Basics.{process_within}
use Rattle.wire_plan.specs.declared.Kind.TheVariants as code
use Rattle.wire_runs.specs.State.{next_kind}
use Rattle.wire_runs.specs.Step.{run}
use Rattle.wire_core.specs.Course.{state_of}
use Rattle.wire_core.proofs.Meet.{complete_at, leave_enabled}
use Rattle.wire_core.proofs.running.Core.looks_ready.Goals as goal

pub see_key-requires : goal.see_key-requires
see_key-requires c = process_within (plan_of c.args.self.now.scripts) c.args.proc.number ((state_of c.args.self.now).done c.args.proc.number)
    (kind_of c.args.self.now.scripts.sets c.in-Some-Get.field-0) (sym c.in-Some-Get.ensures.kind)

pub returns-in-Some-Leave : goal.returns-in-Some-Leave
returns-in-Some-Leave c =
    let plan = plan_of c.self.inside.plan.now in
    let s = run plan (map (λ p. p.number) c.self.inside.history.items) in
    let place = rw (← c.self.view_is) at c.next_event.ensures in
    let is : next_kind plan s c.args.proc.number ≡ Some (kind_of c.self.inside.plan.now.sets (code.Leave c.in-Some-Leave.field-0-0)) =
    subst (λ course. next_kind (plan_of course.scripts) (state_of course) c.args.proc.number ≡ Some (kind_of course.scripts.sets (code.Leave c.in-Some-Leave.field-0-0))) (sym c.self.view_is)
    (sym c.in-Some-Leave.ensures.kind ∙ ap (λ k. Some (kind_of c.args.self.now.scripts.sets k)) c.in-Some-Leave.field-0-is) in
    rw (← c.self.view_is) (c.is_complete.ensures s.done c.self.invariant.shared.arrived ∙ ap (complete_at plan s.done) place ∙ leave_enabled plan s c.args.proc.number _ is)
