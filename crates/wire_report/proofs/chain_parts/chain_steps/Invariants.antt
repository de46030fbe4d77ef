use Rattle.std.proofs.Common.{◌≡◌, ◌++◌, map, drop}
use Rattle.wire_runs.specs.Plan.{event_of}
use Rattle.wire_report.specs.Chain.{step_of}
use Rattle.wire_report.proofs.chain_parts.chain_steps.Given as goal

-- the steps that are made, and those of the events that are left, are all steps
abbrev pub invariant-loop-event : goal.invariant-loop-event
invariant-loop-event l = l.steps.items ++ map (step_of l.plan) (map event_of (drop l.event-index l.chain)) ≡ map (step_of l.plan) (map event_of l.chain)
