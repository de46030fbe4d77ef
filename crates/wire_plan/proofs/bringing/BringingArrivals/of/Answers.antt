use Rattle.std.proofs.Common.{◌≤◌, arith}
use Rattle.wire_runs.specs.Plan.{process_count}
use Rattle.wire_scripts.specs.Planned.{plan_of}
use Rattle.wire_plan.proofs.FirstBringing.{plan_looked_at}
use Rattle.wire_plan.proofs.bringing.BringingArrivals.of.Goals as goal

pub returns : goal.returns
returns c =
    let over = c.loop-number-test.false in
    let count = c.process_count-number-end.ensures in
    let last : process_count (plan_of c.args.events.now) ≤ c.loop-number.number = omega (arith, over, count) in
    plan_looked_at (plan_of c.args.events.now) c.loop-number.number _ last c.loop-number.invariant
