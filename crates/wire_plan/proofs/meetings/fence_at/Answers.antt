use Rattle.wire_scripts.specs.Planned.{plan_of}
use Rattle.wire_plan.proofs.FenceOf.{has_fence, of_fence_within}
use Rattle.wire_plan.proofs.meetings.fence_at.Goals as goal

pub call_of-requires : goal.call_of-requires
call_of-requires c = of_fence_within (plan_of c.args.events.now) c.args.event.proc.number c.args.event.at c.requires.half

pub id_of-requires : goal.id_of-requires
id_of-requires c =
    rw c.call_of.ensures (has_fence c.args.events.now c.args.fences.now c.args.event.proc.number c.args.event.at c.requires.fences c.requires.half).numbered

pub returns : goal.returns
returns c =
    let found = rw c.call_of.ensures at c.id_of.ensures in
    (has_fence c.args.events.now c.args.fences.now c.args.event.proc.number c.args.event.at c.requires.fences c.requires.half).met c.id_of.result.number found
