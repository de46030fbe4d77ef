use Rattle.std.proofs.Common.{◌≡◌, ◌++◌, map, drop}
use Rattle.std.specs.List.{flat_map}
use Rattle.wire_runs.specs.Plan.{event_of}
use Rattle.wire_commands.specs.Chains.{placed_event}
use Rattle.wire_command.specs.Answer.{rows_in}
use Rattle.wire_commands.proofs.why.push_events.Given as goal

-- what is written, and the lines of the events that are left, are all lines
abbrev pub invariant-loop-event : goal.invariant-loop-event
invariant-loop-event l =
    l.fn.out.items ++ flat_map (placed_event l.places.name.now (rows_in l.places) l.plan) (map event_of l.chain)
    ≡ l.out.items ++ flat_map (placed_event l.places.name.now (rows_in l.places) l.plan) (map event_of (drop l.event-index l.chain))
