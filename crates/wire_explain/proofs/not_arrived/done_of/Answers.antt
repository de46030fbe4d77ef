use Rattle.std.proofs.Common.{◌∙◌, ap, arith}
use Rattle.wire_runs.specs.Plan.{event_count}
use Rattle.wire_scripts.specs.Planned.{plan_of}
use Rattle.wire_core.specs.Course.{plan_in}
use Rattle.wire_core.proofs.Bring.{done_within}
use Rattle.wire_explain.proofs.not_arrived.done_of.Goals as goal

pub returns-clause-done : goal.returns-clause-done
returns-clause-done c =
    let count = c.event_count-count.ensures ∙ ap (λ s. event_count (plan_of s) c.args.proc.number) c.plan.ensures in
    let most = done_within (plan_in c.args.core.now) c.args.core.now.history c.args.proc.number c.history.ensures.legal in
    omega (arith, count, most, c.loop-at.invariant, c.loop-at-test.false)
