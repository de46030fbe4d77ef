use Rattle.std.proofs.Common.{map}
use Rattle.wire_runs.specs.Plan.{event_of}
use Rattle.wire_plan.proofs.Gathering.{arrivals_met}
use Rattle.wire_plan.proofs.meetings.arrivals_at.Goals as goal

pub returns : goal.returns
returns c members is =
    let met = c.fence_at.ensures in
    arrivals_met c.args.events.now c.args.fences.now c.args.event c.fence_at.result.number met members is (map event_of c.arrivals.result.now)
    (c.arrivals.ensures c.args.events.now c.args.fences.now met.fence c.requires.meetings met.there)
