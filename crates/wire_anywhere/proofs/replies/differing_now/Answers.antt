use Rattle.wire_scripts.specs.Planned.{plan_of}
use Rattle.wire_runs.proofs.Basics.{event_within}
use Rattle.wire_anywhere.proofs.replies.differing_now.Goals as goal

pub call_of-requires : goal.call_of-requires
call_of-requires c = event_within (plan_of c.args.plan.now) c.args.asked.get_now.proc.number c.args.asked.get_now.at _ c.requires
