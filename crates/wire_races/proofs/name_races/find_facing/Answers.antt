use Rattle.std.proofs.Common.{map}
use Rattle.wire_runs.specs.Plan.{event_of}
use Rattle.wire_scripts.specs.Planned.{plan_of}
use Rattle.wire_races.proofs.Swept.{facing_all, facing_none}
use Rattle.wire_races.proofs.name_races.find_facing.Goals as goal

pub returns-then-x-proc : goal.returns-then-x-proc
returns-then-x-proc c = facing_all (plan_of c.args.plan.now) (event_of c.args.x) c.args.proc.number (map event_of c.sweeps.result.now) c.if-x-proc.true c.sweeps.ensures

pub returns-else-x-proc : goal.returns-else-x-proc
returns-else-x-proc c = facing_none (plan_of c.args.plan.now) (event_of c.args.x) c.args.proc.number c.if-x-proc.false
