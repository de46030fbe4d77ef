use Rattle.wire_plan.proofs.Wired.{sources_are}
use Rattle.wire_plan.proofs.plan.Plan.sources.Goals as goal
use Rattle.wire_runs.specs.Plan.{event_of}
use Rattle.wire_scripts.specs.Planned.{plan_of}

pub returns-clause-sources : goal.returns-clause-sources
returns-clause-sources c =
    sources_are (plan_of c.args.self.now) (event_of c.args.event) c.previous_event.result c.awaited.result c.arrivals_before.result.now
    c.previous_event.ensures c.awaited.ensures c.arrivals_before.ensures.leave c.arrivals_before.ensures.others
