use Rattle.std.proofs.Common.{◌≡◌, ◌<◌, ◌≤◌, true, false, ℕ}
use Rattle.wire_happens_before.specs.Meeting.{left_in, IsStuckIn, IsGrowing}
use Rattle.wire_happens_before.proofs.grow.mark_once.Given as goal

abbrev pub invariant-loop-number : goal.invariant-loop-number
invariant-loop-number l = record {
  growing : IsGrowing l.growth;
  plan : l.growth.plan.now ≡ l.initial.growth.plan.now;
  not_more : left_in l.growth ≤ left_in l.initial.growth;
  falls : l.moved ≡ true → left_in l.growth < left_in l.initial.growth;
  stuck : l.moved ≡ false → (p : ℕ) → p < l.number → IsStuckIn l.growth p;
}
