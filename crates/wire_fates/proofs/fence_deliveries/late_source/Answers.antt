use Rattle.std.proofs.Common.{map}
use Rattle.wire_runs.specs.Plan.{event_of}
use Rattle.wire_scripts.specs.Planned.{plan_of}
use Rattle.wire_fates.proofs.Arrivals.{late_tells}
use Rattle.wire_fates.proofs.fence_deliveries.late_source.Goals as goal

pub returns : goal.returns
returns c =
    let plan = plan_of c.args.marked.now in
    let get = event_of c.args.get_now in
    let arrival = event_of c.args.arrival in
    let fence = c.requires.may.fence in
    let places = map event_of c.all_arrivals.result.now in
    let those = rw c.plan.ensures at c.all_arrivals.ensures in
    late_tells plan get arrival fence places those c.first_not_before.result c.first_not_before.ensures c.requires.may
