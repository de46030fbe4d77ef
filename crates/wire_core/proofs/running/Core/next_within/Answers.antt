use Rattle.std.proofs.Common.{ap, arith}
use Rattle.wire_runs.proofs.PlainRun.{enabled_within}
use Rattle.wire_core.specs.Course.{plan_in, state_of}
use Rattle.wire_core.proofs.running.Core.next_within.Goals as goal

pub returns-clause-next : goal.returns-clause-next
returns-clause-next c = λ p may.
    let scripts = ap (λ course. course.scripts) c.self.view_is in
    let count = rw scripts at c.process_count-number-end.ensures in
    let below = enabled_within (plan_in c.args.self.now) (state_of c.args.self.now) p may.enabled in
    let past = c.loop-number-test.false in
    c.loop-number.invariant.none p (omega (arith, count, below, past)) may
