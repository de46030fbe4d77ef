use Rattle.std.proofs.Common.{◌-◌}
use Rattle.wire_runs.specs.Plan.{event_of}
use Rattle.wire_scripts.specs.Planned.{plan_of}
use Rattle.wire_anywhere.specs.Adding.{AddsPlacementFindings}
use Rattle.wire_anywhere.specs.Races.{AreFarBelow}
use Rattle.wire_anywhere.proofs.far_races.add_all_late.Given as goal

abbrev pub invariant-deliveries : goal.invariant-deliveries
invariant-deliveries l =
    AddsPlacementFindings (plan_of l.marked) l.initial.found l.found (AreFarBelow (plan_of l.marked) (event_of l.asked.get_now) l.asked.owner.number l.asked.key l.from)

abbrev pub decreases-deliveries : goal.decreases-deliveries
decreases-deliveries l = l.count - l.from
