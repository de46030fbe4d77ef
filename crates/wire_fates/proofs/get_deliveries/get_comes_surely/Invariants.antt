use Rattle.std.proofs.Common.{◌-◌, length, map}
use Rattle.wire_runs.specs.Plan.{event_of}
use Rattle.wire_scripts.specs.Planned.{plan_of}
use Rattle.wire_fates.proofs.Gets.{NoneBefore}
use Rattle.wire_fates.proofs.get_deliveries.get_comes_surely.Given as goal

abbrev pub invariant-processes : goal.invariant-processes
invariant-processes l = NoneBefore (plan_of l.marked) (event_of l.asked.get_now) (map event_of l.gets) l.place

abbrev pub decreases-processes : goal.decreases-processes
decreases-processes l = length l.gets - l.place
