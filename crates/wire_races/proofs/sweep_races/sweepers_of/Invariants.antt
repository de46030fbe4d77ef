use Rattle.std.proofs.Common.{map}
use Rattle.wire_runs.specs.Plan.{event_of}
use Rattle.wire_scripts.specs.Planned.{plan_of}
use Rattle.wire_scripts.specs.Scripts.{numbers_of}
use Rattle.wire_races.proofs.Swept.{AreSweepersTo}
use Rattle.wire_races.proofs.sweep_races.sweepers_of.Given as goal

abbrev pub invariant-loop-publish : goal.invariant-loop-publish
invariant-loop-publish l = AreSweepersTo (plan_of l.plan) l.name (map event_of l.publishes) l.publish-index (numbers_of l.procs.items)
