use Rattle.std.proofs.Common.{◌≡◌, ◌<◌, ℕ, length}
use Rattle.wire_runs.specs.Plan.{event_of}
use Rattle.wire_scripts.specs.Planned.{plan_of}
use Rattle.wire_happens_before.specs.Clocks.{IsClockOf}
use Rattle.wire_core.specs.Within.{limit_at}
use Rattle.wire_witness.proofs.runs.limits_upto.Given as goal

-- the limits of the processes so far
abbrev pub invariant-loop-number : goal.invariant-loop-number
invariant-loop-number l = record {
  count : length l.limits.items ≡ l.number;
  each : (p : ℕ) → p < l.number → IsClockOf (plan_of l.marked) (event_of l.event) p (limit_at l.limits.items p);
}
