use Rattle.wire_scripts.specs.Planned.{plan_of}
use Rattle.wire_races.specs.Adding.{AddsFindings, ToldIn}
use Rattle.wire_races.specs.KeyRaces.{IsKeyRaceBy}
use Rattle.wire_races.proofs.key_races.add_process.Given as goal

abbrev pub invariant-loop-at : goal.invariant-loop-at
invariant-loop-at l = AddsFindings (plan_of l.marked) l.initial.found l.found (ToldIn (IsKeyRaceBy (plan_of l.marked)) l.proc.number l.at)
