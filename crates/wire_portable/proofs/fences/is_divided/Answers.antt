use Rattle.std.proofs.Common.{map}
use Rattle.wire_runs.specs.Plan.{event_of}
use Rattle.wire_scripts.specs.Planned.{plan_of}
use Rattle.wire_portable.proofs.PlainFences.{arrivals_within}
use Rattle.wire_portable.proofs.fences.is_divided.Goals as goal

pub agree-requires : goal.agree-requires
agree-requires c =
    let z = c.requires.arrives in
    arrivals_within (plan_of c.args.plan.now) z.members z.j (map event_of c.all_arrivals-arrivals.result.now) (c.all_arrivals-arrivals.ensures z.members z.j z.arrival)
