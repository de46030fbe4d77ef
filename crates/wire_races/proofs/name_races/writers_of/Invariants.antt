use Rattle.std.proofs.Common.{map}
use Rattle.wire_runs.specs.Plan.{event_of}
use Rattle.wire_scripts.specs.Planned.{plan_of}
use Rattle.wire_runs.specs.EventLists.{AreAll}
use Rattle.wire_races.proofs.Rivals.{IsWriterBelow}
use Rattle.wire_races.proofs.name_races.writers_of.Given as goal

abbrev pub invariant-loop-event : goal.invariant-loop-event
invariant-loop-event l = AreAll (IsWriterBelow (plan_of l.plan) l.name (map event_of l.calls) l.event-index) (map event_of l.writers.items)
