use Rattle.std.proofs.Common.{map, take}
use Rattle.wire_runs.specs.Plan.{event_of}
use Rattle.wire_scripts.specs.Planned.{plan_of}
use Rattle.wire_races.specs.Adding.{AddsFindings}
use Rattle.wire_races.proofs.SweepRaces.{IsRaceOfOne}
use Rattle.wire_races.proofs.sweep_races.add_stretch.Given as goal

abbrev pub invariant-loop-x : goal.invariant-loop-x
invariant-loop-x l = AddsFindings (plan_of l.marked) l.initial.found l.found (IsRaceOfOne (plan_of l.marked) (map event_of (take l.x-index l.sweeps)) l.shares)
