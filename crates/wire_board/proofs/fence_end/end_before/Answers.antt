use Rattle.std.proofs.Common.{refl}
use Rattle.wire_runs.specs.Plan.{event_of}
use Rattle.wire_types.specs.declared.Event.{Event}
use Rattle.wire_scripts.specs.Planned.{plan_of}
use Rattle.wire_board.proofs.Leaving.{waits_for_more}
use Rattle.wire_board.proofs.fence_end.end_before.Goals as goal

pub returns : goal.returns
returns c =
    let arrival = c.in-Some.arrival in
    let end : Event = record { proc = arrival.proc; at = c.in-Some-checked_add.at } in
    let e = c.sources-sources.ensures in
    waits_for_more (plan_of c.args.plan.now) (event_of c.args.event) c.sources-sources.result.arrivals.now arrival end
    c.in-Some.ensures.0 c.in-Some.ensures.1 refl c.in-Some-checked_add.ensures.1 e.leave
    e.others
