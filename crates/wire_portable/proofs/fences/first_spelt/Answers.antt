use Rattle.std.proofs.Common.{◌+◌, map, arith}
use Rattle.wire_runs.specs.Plan.{event_of}
use Rattle.wire_fates.proofs.Places.{place_at}
use Rattle.wire_portable.proofs.PlainFences.{none_more, spelt_here}
use Rattle.wire_portable.proofs.fences.first_spelt.Goals as goal

pub is_spelt-requires : goal.is_spelt-requires
is_spelt-requires c = c.requires c.loop-other.other-index _ (place_at c.args.arrivals.now c.loop-other.other-index _ c.loop-other-test.true)

pub loop-other-preserved : goal.loop-other-preserved
loop-other-preserved c =
    none_more c.args.plan.now c.args.spelling.now c.args.number (map event_of c.args.arrivals.now) c.loop-other.other-index (c.loop-other.other-index + 1) _ (omega arith)
    (place_at c.args.arrivals.now c.loop-other.other-index _ c.loop-other-test.true) c.is_spelt.result c.is_spelt.ensures c.if-is_spelt.false c.loop-other.invariant

pub returns-then-is_spelt : goal.returns-then-is_spelt
returns-then-is_spelt c =
    spelt_here c.args.plan.now c.args.spelling.now c.args.number (map event_of c.args.arrivals.now) c.loop-other.other-index _
    (place_at c.args.arrivals.now c.loop-other.other-index _ c.loop-other-test.true) c.is_spelt.result c.is_spelt.ensures c.if-is_spelt.true c.loop-other.invariant
