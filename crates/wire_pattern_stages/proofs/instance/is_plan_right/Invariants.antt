use Rattle.std.proofs.Common.{ℕ, ◌<◌}
use Rattle.wire_runs.specs.Plan.{event_count}
use Rattle.wire_scripts.specs.Planned.{plan_of}
use Rattle.wire_pattern_stages.specs.Rising.{AreRight}
use Rattle.wire_pattern_stages.specs.Tables.{view_key}
use Rattle.wire_pattern_stages.proofs.instance.is_plan_right.Given as goal

abbrev pub invariant-loop-number : goal.invariant-loop-number
invariant-loop-number l = (p : ℕ) → p < l.number → AreRight (view_key l.view) (plan_of l.view.plan.now) p (event_count (plan_of l.view.plan.now) p)
