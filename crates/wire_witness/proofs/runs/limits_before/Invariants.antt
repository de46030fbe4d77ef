use Rattle.std.proofs.Common.{◌≡◌, ◌<◌, ◌==◌, ℕ, length}
use Rattle.std.specs.Prelude.{if◌then◌else◌}
use Rattle.wire_runs.specs.Plan.{event_count}
use Rattle.wire_scripts.specs.Planned.{plan_of}
use Rattle.wire_core.specs.Within.{limit_at}
use Rattle.wire_witness.proofs.runs.limits_before.Given as goal

-- the limits of the processes so far
abbrev pub invariant-loop-number : goal.invariant-loop-number
invariant-loop-number l = record {
  count : length l.limits.items ≡ l.number;
  each : (p : ℕ) → p < l.number → limit_at l.limits.items p ≡ (if p == l.held.proc.number then l.held.at else event_count (plan_of l.plan) p);
}
