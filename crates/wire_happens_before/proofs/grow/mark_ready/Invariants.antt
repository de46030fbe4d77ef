use Rattle.std.proofs.Common.{◌≡◌, ◌<◌, ◌+◌, false, ℕ, if◌then◌else◌}
use Rattle.wire_runs.specs.Plan.{process_count}
use Rattle.wire_happens_before.specs.Meeting.{plan_in, left_in, IsStuckIn, IsGrowing}
use Rattle.wire_happens_before.proofs.grow.mark_ready.Given as goal

abbrev pub invariant-passes : goal.invariant-passes
invariant-passes l = record {
  growing : IsGrowing l.growth;
  plan : l.growth.plan.now ≡ l.initial.growth.plan.now;
  stuck : l.moved ≡ false → (p : ℕ) → p < process_count (plan_in l.growth) → IsStuckIn l.growth p;
}

abbrev pub decreases-passes : goal.decreases-passes
decreases-passes l = left_in l.growth + (if l.moved then 1 else 0)
