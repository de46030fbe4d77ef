use Rattle.std.proofs.Common.{take}
use Rattle.wire_runs.specs.Plan.{event_of}
use Rattle.wire_scripts.specs.Planned.{plan_of}
use Rattle.wire_scripts.specs.Scripts.{numbers_of}
use Rattle.wire_races.specs.Adding.{AddsFindings}
use Rattle.wire_races.specs.NameRaces.{IsSweptRace}
use Rattle.wire_races.proofs.name_races.add_swept.Given as goal

abbrev pub invariant-loop-proc : goal.invariant-loop-proc
invariant-loop-proc l = AddsFindings (plan_of l.marked) l.initial.found l.found (IsSweptRace (plan_of l.marked) l.x.name (event_of l.x.event) (numbers_of (take l.proc-index l.procs)))
