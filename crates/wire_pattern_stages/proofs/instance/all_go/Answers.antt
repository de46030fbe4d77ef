use Rattle.std.proofs.Common.{map, arith}
use Rattle.wire_runs.specs.Plan.{event_of}
use Rattle.wire_pattern_stages.specs.Rising.{Goes}
use Rattle.wire_pattern_stages.specs.Tables.{view_key}
use Rattle.wire_pattern_stages.proofs.Lists.{place_at, one_more, all_events}
use Rattle.wire_pattern_stages.proofs.instance.all_go.Goals as goal

pub loop-x-preserved : goal.loop-x-preserved
loop-x-preserved c =
    one_more (λ z. Goes (view_key c.args.view.now) z (event_of c.args.y)) (map event_of c.args.events.now) c.loop-x.x-index _
    (place_at c.args.events.now c.loop-x.x-index _ c.loop-x-test.true) c.loop-x.invariant (c.goes.ensures c.if-not-goes.false)

pub returns : goal.returns
returns c = λ t.
    let end = c.loop-x-test.false in
    all_events (λ z. Goes (view_key c.args.view.now) z (event_of c.args.y)) c.args.events.now c.loop-x.x-index (omega (arith, end)) c.loop-x.invariant
