use Rattle.std.proofs.Common.{map, take}
use Rattle.wire_runs.specs.Plan.{event_of}
use Rattle.wire_scripts.specs.Planned.{plan_of}
use Rattle.wire_races.specs.Adding.{AddsFindings}
use Rattle.wire_races.specs.NameRaces.{IsNameRaceWith}
use Rattle.wire_races.proofs.call_races.add_races.Given as goal

abbrev pub invariant-loop-y : goal.invariant-loop-y
invariant-loop-y l = AddsFindings (plan_of l.plan) l.initial.found l.found (IsNameRaceWith (plan_of l.plan) l.x.name (event_of l.x.event) (map event_of (take l.y-index l.those)))
