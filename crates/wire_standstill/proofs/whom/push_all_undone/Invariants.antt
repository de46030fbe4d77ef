use Rattle.std.proofs.Common.{◌≡◌, ◌++◌, map, drop}
use Rattle.wire_runs.specs.Plan.{event_of}
use Rattle.wire_core.specs.Course.{state_of}
use Rattle.wire_standstill.specs.Standstill.{undone_ranks}
use Rattle.wire_standstill.proofs.whom.push_all_undone.Given as goal

abbrev pub invariant-loop-event : goal.invariant-loop-event
invariant-loop-event l =
    l.out.items ++ undone_ranks (state_of l.core) (map event_of (drop l.event-index l.events)) ≡ l.initial.out.items ++ undone_ranks (state_of l.core) (map event_of l.events)
