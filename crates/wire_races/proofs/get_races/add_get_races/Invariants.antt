use Rattle.std.proofs.Common.{◌-◌, length, map}
use Rattle.wire_runs.specs.Plan.{event_of, node_of}
use Rattle.wire_scripts.specs.Planned.{plan_of}
use Rattle.wire_races.specs.Adding.{AddsFindings}
use Rattle.wire_races.specs.GetRaces.{AreRacesBelow}
use Rattle.wire_races.proofs.get_races.add_get_races.Given as goal

abbrev pub invariant-gets : goal.invariant-gets
invariant-gets l = AddsFindings (plan_of l.marked) l.initial.found l.found
    (AreRacesBelow (plan_of l.marked) (event_of l.asked.get_now) l.asked.owner.number l.asked.key (node_of (plan_of l.marked) l.asked.get_now.proc.number) (map event_of l.gets) l.place)

abbrev pub decreases-gets : goal.decreases-gets
decreases-gets l = length l.gets - l.place
