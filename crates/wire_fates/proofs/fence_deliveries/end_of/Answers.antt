use Rattle.std.proofs.Common.{◌≡◌, ◌+◌, ◌∙◌, suc, ap, arith}
use Rattle.wire_runs.specs.Plan.{kind_at}
use Rattle.wire_scripts.specs.Planned.{plan_of}
use Rattle.wire_runs.proofs.Basics.{event_within}
use Rattle.wire_plan.proofs.Planning.{count_fits}
use Rattle.wire_fates.proofs.First.{leave_next}
use Rattle.wire_fates.proofs.fence_deliveries.end_of.Goals as goal

pub overflow_add-result : goal.overflow_add-result
overflow_add-result c =
    let s = c.args.plan.now in
    let lt = event_within (plan_of s) c.args.arrival.proc.number c.args.arrival.at _ c.requires.arrival.is in
    let few = count_fits s c.args.arrival.proc.number c.scripts.ensures.sound.counted.few_calls in
    record { fits = omega (arith, lt, few) }

pub returns-clause-leave : goal.returns-clause-leave
returns-clause-leave c = λ members j a.
    let one : c.args.arrival.at + 1 ≡ suc c.args.arrival.at = omega arith in
    ap (kind_at (plan_of c.args.plan.now) c.args.arrival.proc.number) one ∙ leave_next (plan_of c.args.plan.now) c.args.arrival.proc.number c.args.arrival.at members a.collect a.is
