use Rattle.wire_scripts.specs.Planned.{plan_of}
use Rattle.wire_anywhere.specs.Adding.{AddsPlacementFindings, ToldIn}
use Rattle.wire_anywhere.specs.Races.{IsShownBy}
use Rattle.wire_anywhere.proofs.key_races.add_process.Given as goal

abbrev pub invariant-loop-at : goal.invariant-loop-at
invariant-loop-at l = AddsPlacementFindings (plan_of l.marked) l.initial.found l.found (ToldIn (IsShownBy (plan_of l.marked)) l.proc.number l.at)
