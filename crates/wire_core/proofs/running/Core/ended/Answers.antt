use Rattle.wire_scripts.specs.Planned.{plan_of}
use Rattle.wire_core.specs.Course.{state_of}
use Rattle.wire_core.proofs.Ranks.{ended_tells}
use Rattle.wire_core.proofs.running.Core.ended.Goals as goal

pub returns : goal.returns
returns c = ended_tells (plan_of c.args.self.now.scripts) (state_of c.args.self.now) c.lowest_ready.result c.is_none.result c.lowest_ready.ensures c.is_none.ensures
