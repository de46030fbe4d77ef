use Rattle.std.proofs.Common.{◌-◌, map, arith}
use Rattle.wire_runs.specs.Plan.{event_of}
use Rattle.wire_fates.proofs.Places.{place_at}
use Rattle.wire_portable.proofs.Gathered.{row_rising, none_below, last_is}
use Rattle.wire_portable.proofs.commits.last_in.Goals as goal

pub returns-then-count-eq0 : goal.returns-then-count-eq0
returns-then-count-eq0 c = λ plan p are.
    let places = map event_of c.args.row.now in
    none_below plan p c.args.end c.count_below-count.result places are (c.count_below-count.ensures.exactly p (row_rising plan p places are)) c.if-count-eq0.true

pub returns : goal.returns
returns c = λ plan p are.
    let places = map event_of c.args.row.now in
    let within = c.count_below-count.ensures.within in
    let some = c.if-count-eq0.false in
    last_is plan p c.args.end c.count_below-count.result places are (c.count_below-count.ensures.exactly p (row_rising plan p places are)) _
    (place_at c.args.row.now (c.count_below-count.result - 1) _ (omega (arith, within, some))) some
