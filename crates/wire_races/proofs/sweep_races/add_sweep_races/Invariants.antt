use Rattle.wire_scripts.specs.Planned.{plan_of}
use Rattle.wire_races.specs.Adding.{AddsFindings}
use Rattle.wire_races.specs.SweepRaces.{IsSweepRaceBelow}
use Rattle.wire_races.proofs.sweep_races.add_sweep_races.Given as goal

abbrev pub invariant-loop-number : goal.invariant-loop-number
invariant-loop-number l = AddsFindings (plan_of l.marked) l.initial.found l.found (IsSweepRaceBelow (plan_of l.marked) l.number)
