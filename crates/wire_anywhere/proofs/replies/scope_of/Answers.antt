use Rattle.wire_scripts.specs.Planned.{plan_of}
use Rattle.wire_runs.proofs.Basics.{event_within}
use Rattle.wire_anywhere.proofs.replies.scope_of.Goals as goal

pub kind-requires : goal.kind-requires
kind-requires c = event_within (plan_of c.args.plan.now) c.args.put.proc.number c.args.put.at _ c.requires.1.is
