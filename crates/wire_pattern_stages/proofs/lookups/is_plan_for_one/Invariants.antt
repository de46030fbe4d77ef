use Rattle.std.proofs.Common.{ℕ, ◌<◌}
use Rattle.wire_runs.specs.Plan.{event_count}
use Rattle.wire_scripts.specs.Planned.{plan_of}
use Rattle.wire_pattern_stages.specs.Lookups.{AreForOne}
use Rattle.wire_pattern_stages.proofs.lookups.is_plan_for_one.Given as goal

abbrev pub invariant-loop-number : goal.invariant-loop-number
invariant-loop-number l = (p : ℕ) → p < l.number → AreForOne (plan_of l.plan) p (event_count (plan_of l.plan) p)
