use Rattle.wire_scripts.specs.Planned.{plan_of}
use Rattle.wire_races.specs.Adding.{AddsFindings, ToldBetween}
use Rattle.wire_races.specs.KeyRaces.{IsKeyRaceBy}
use Rattle.wire_races.proofs.key_races.add_processes.Given as goal

abbrev pub invariant-loop-number : goal.invariant-loop-number
invariant-loop-number l = AddsFindings (plan_of l.marked) l.initial.found l.found (ToldBetween (IsKeyRaceBy (plan_of l.marked)) l.from l.number)
