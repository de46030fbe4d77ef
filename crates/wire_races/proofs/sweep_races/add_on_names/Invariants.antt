use Rattle.std.proofs.Common.{map, take}
use Rattle.wire_runs.specs.Plan.{event_of}
use Rattle.wire_scripts.specs.Planned.{plan_of}
use Rattle.wire_races.specs.Adding.{AddsFindings}
use Rattle.wire_races.specs.SweepRaces.{IsRaceOnOne}
use Rattle.wire_races.proofs.sweep_races.add_on_names.Given as goal

abbrev pub invariant-loop-share : goal.invariant-loop-share
invariant-loop-share l = AddsFindings (plan_of l.plan) l.initial.found l.found (IsRaceOnOne (plan_of l.plan) (event_of l.x) (map event_of l.those) (take l.share-index l.shares))
