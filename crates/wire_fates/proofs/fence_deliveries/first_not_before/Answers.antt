use Rattle.std.proofs.Common.{◌+◌, map, arith}
use Rattle.wire_runs.specs.Plan.{event_of}
use Rattle.wire_scripts.specs.Planned.{plan_of}
use Rattle.wire_runs.specs.Order.{Before}
use Rattle.wire_fates.proofs.Arrivals.{one_more}
use Rattle.wire_fates.proofs.Places.{place_at}
use Rattle.wire_fates.proofs.fence_deliveries.first_not_before.Goals as goal

pub loop-x-preserved : goal.loop-x-preserved
loop-x-preserved c =
    let plan = plan_of c.args.marked.now in
    one_more (λ z. Before plan z (event_of c.args.get_now)) (map event_of c.args.events.now) c.loop-x.x-index (c.loop-x.x-index + 1) _ (omega arith)
    (place_at c.args.events.now c.loop-x.x-index _ c.loop-x-test.true) c.loop-x.invariant (c.before-in-loop-x.ensures.0 c.if-not-before.false)
