use Rattle.std.proofs.Common.{◌≡◌, ◌<◌, ℕ, length}
use Rattle.wire_core.specs.Course.{plan_in, state_of}
use Rattle.wire_circles.specs.Circles.{waited_by}
use Rattle.wire_standstill.specs.Standstill.{AreWaitedBy}
use Rattle.wire_standstill.proofs.whom.waits_of.Given as goal

abbrev pub invariant-loop-number : goal.invariant-loop-number
invariant-loop-number l = record {
  count : length l.waits.items ≡ l.number;
  each : (p : ℕ) → p < l.number → AreWaitedBy (plan_in l.core) (state_of l.core) p (waited_by l.waits.items p);
}
