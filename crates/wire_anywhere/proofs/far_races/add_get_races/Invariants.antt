use Rattle.std.proofs.Common.{map}
use Rattle.wire_runs.specs.Plan.{event_of}
use Rattle.wire_scripts.specs.Planned.{plan_of}
use Rattle.wire_anywhere.specs.Adding.{AddsPlacementFindings}
use Rattle.wire_anywhere.specs.Races.{AreFarGetsBelow}
use Rattle.wire_anywhere.proofs.far_races.add_get_races.Given as goal

abbrev pub invariant-loop-get : goal.invariant-loop-get
invariant-loop-get l =
    AddsPlacementFindings (plan_of l.marked) l.initial.found l.found (AreFarGetsBelow (plan_of l.marked) (event_of l.asked.get_now) l.asked.owner.number l.asked.key (map event_of l.gets) l.get-index)
