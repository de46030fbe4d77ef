use Rattle.std.proofs.Common.{◌∙◌, ap, arith}
use Rattle.wire_runs.proofs.Lists.{one_longer}
use Rattle.wire_core.proofs.Limits.{stepped, goes_on, has_room}
use Rattle.wire_core.proofs.running.Core.run_within.Goals as goal

pub steps-smaller : goal.steps-smaller
steps-smaller c =
    let p = c.in-Some.proc.number in
    let room = has_room c.args.limits.now c.args.self.now c.steps.self p c.steps.invariant c.in-Some.ensures.next in
    let longer = one_longer c.steps.self.history p in
    rw (c.step.ensures, c.in-Some.ensures.same) (omega (arith, room, longer))

pub steps-preserved : goal.steps-preserved
steps-preserved c =
    goes_on c.args.limits.now c.args.self.now c.steps.self c.step.new.self c.in-Some.proc.number c.steps.invariant c.in-Some.ensures.next
    (c.step.ensures ∙ ap (λ course. stepped course c.in-Some.proc.number) c.in-Some.ensures.same)
