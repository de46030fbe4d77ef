use Rattle.wire_runs.proofs.PlainRun.{enabled_within}
use Rattle.wire_scripts.specs.Planned.{plan_of}
use Rattle.wire_core.specs.Course.{state_of}
use Rattle.wire_core.proofs.running.Core.step.Goals as goal

pub look_back-requires : goal.look_back-requires
look_back-requires c = enabled_within (plan_of c.args.self.now.scripts) (state_of c.args.self.now) c.args.proc.number c.requires
