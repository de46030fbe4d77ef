use Rattle.std.proofs.Common.{◌≡◌, ◌++◌, map, drop}
use Rattle.wire_runs.specs.Plan.{event_of}
use Rattle.wire_report.specs.Chain.{event_lines}
use Rattle.wire_report.proofs.chain_parts.push_events.Given as goal

-- what is written, and the lines of the events that are left, are all lines
abbrev pub invariant-loop-event : goal.invariant-loop-event
invariant-loop-event l = l.fn.out.items ++ event_lines l.plan (map event_of l.chain) ≡ l.out.items ++ event_lines l.plan (map event_of (drop l.event-index l.chain))
