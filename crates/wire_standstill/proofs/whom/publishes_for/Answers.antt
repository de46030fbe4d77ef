use Rattle.std.proofs.Common.{ap, map}
use Rattle.wire_runs.specs.Plan.{event_of}
use Rattle.wire_scripts.specs.Planned.{plan_of}
use Rattle.wire_plan.specs.Kinds.{kind_of}
use Rattle.wire_standstill.proofs.Awaited.{published}
use Rattle.wire_standstill.proofs.whom.publishes_for.Goals as goal

pub returns-in-LookupWait : goal.returns-in-LookupWait
returns-in-LookupWait c =
    published (plan_of c.args.plan.now) c.in-LookupWait.name (kind_of c.args.plan.now.sets c.args.kind) (map event_of c.publishes.result.now)
    (ap (kind_of c.args.plan.now.sets) c.in-LookupWait.is) c.publishes.ensures
