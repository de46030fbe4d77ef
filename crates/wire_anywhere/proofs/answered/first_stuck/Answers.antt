use Rattle.std.proofs.Common.{arith}
use Rattle.wire_scripts.specs.Planned.{plan_of}
use Rattle.wire_runs.proofs.Fates.{live_within}
use Rattle.wire_anywhere.proofs.answered.first_stuck.Goals as goal

pub returns : goal.returns
returns c = λ at s.
    let plan = plan_of c.args.marked.now in
    let lt = live_within plan (record { proc = c.args.proc.number; at = at }) s.alive in
    let end = c.loop-at-test.false in
    let count = rw c.plan.ensures at c.event_count-at-end.ensures in
    c.loop-at.invariant at (omega (arith, lt, end, count)) s
