use Rattle.std.proofs.Common.{ap, subst, map}
use Rattle.wire_runs.specs.Plan.{event_of}
use Rattle.wire_scripts.specs.Planned.{plan_of}
use Rattle.wire_plan.specs.Index.{AreArrivals}
use Rattle.wire_runs.proofs.Basics.{event_within}
use Rattle.wire_fates.proofs.Arrivals.{ended}
use Rattle.wire_fates.proofs.fence_deliveries.all_arrivals.Goals as goal

pub sources-requires : goal.sources-requires
sources-requires c = event_within (plan_of c.args.plan.now) c.end_of.result.proc.number c.end_of.result.at _ (c.end_of.ensures.leave c.requires.members c.requires.j c.requires.arrival)

pub returns : goal.returns
returns c = λ members j a.
    let plan = plan_of c.args.plan.now in
    let leave = c.end_of.ensures.leave members j a in
    subst (λ i. AreArrivals plan members i (map event_of c.sources.result.arrivals.now))
    (ended plan (event_of c.args.arrival) (event_of c.end_of.result) members j a (ap (λ q. q.number) c.end_of.ensures.proc) c.end_of.ensures.next leave)
    (c.sources.ensures.leave members leave)
