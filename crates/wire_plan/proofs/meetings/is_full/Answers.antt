use Rattle.std.proofs.Common.{◌∙◌}
use Rattle.wire_plan.proofs.Gathering.{full_met}
use Rattle.wire_plan.proofs.meetings.is_full.Goals as goal

pub returns : goal.returns
returns c members is = c.full.ensures ∙ full_met c.args.events.now c.args.fences.now c.args.event c.fence_at.result.number c.fence_at.ensures members is c.requires.fences
