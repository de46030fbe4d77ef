use Rattle.wire_runs.proofs.Basics.{event_within}
use Rattle.wire_scripts.specs.Planned.{plan_of}
use Rattle.wire_portable.proofs.own_calls.brings_it.Goals as goal

pub kind-requires : goal.kind-requires
kind-requires c = rw c.plan-plan.ensures (event_within (plan_of c.args.judge.now) c.args.other.proc.number c.args.other.at _ c.requires.1)
