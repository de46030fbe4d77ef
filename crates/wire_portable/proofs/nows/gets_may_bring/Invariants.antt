use Rattle.std.proofs.Common.{◌-◌, length, map}
use Rattle.wire_runs.specs.Plan.{event_of}
use Rattle.wire_scripts.specs.Planned.{plan_of}
use Rattle.wire_portable.proofs.Carried.{ComeLaterTo}
use Rattle.wire_portable.proofs.nows.gets_may_bring.Given as goal

abbrev pub invariant-gets : goal.invariant-gets
invariant-gets l = ComeLaterTo (plan_of l.judge) l.asked.owner.number l.asked.key (event_of l.get) (map event_of l.gets) l.place

abbrev pub decreases-gets : goal.decreases-gets
decreases-gets l = length l.gets - l.place
