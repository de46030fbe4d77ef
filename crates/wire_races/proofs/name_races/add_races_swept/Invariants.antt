use Rattle.std.proofs.Common.{map, take}
use Rattle.wire_runs.specs.Plan.{event_of}
use Rattle.wire_scripts.specs.Planned.{plan_of}
use Rattle.wire_scripts.specs.Scripts.{numbers_of}
use Rattle.wire_races.specs.Adding.{AddsFindings}
use Rattle.wire_races.specs.NameRaces.{IsSweptAmong}
use Rattle.wire_races.proofs.name_races.add_races_swept.Given as goal

abbrev pub invariant-loop-event : goal.invariant-loop-event
invariant-loop-event l = AddsFindings (plan_of l.marked) l.initial.found l.found (IsSweptAmong (plan_of l.marked) l.name (map event_of (take l.event-index l.calls)) (numbers_of l.procs))
