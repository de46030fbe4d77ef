use Rattle.std.proofs.Common.{◌≡◌, ◌≤◌}
use Rattle.wire_happens_before.specs.Meeting.{left_in, IsGrowing}
use Rattle.wire_happens_before.proofs.grow.mark_way.Given as goal

abbrev pub invariant-loop-number : goal.invariant-loop-number
invariant-loop-number l = record {
  growing : IsGrowing l.growth;
  plan : l.growth.plan.now ≡ l.initial.growth.plan.now;
  not_more : left_in l.growth ≤ left_in l.initial.growth;
}

abbrev pub invariant-loop-k : goal.invariant-loop-k
invariant-loop-k l = record {
  growing : IsGrowing l.growth;
  plan : l.growth.plan.now ≡ l.initial.growth.plan.now;
  not_more : left_in l.growth ≤ left_in l.initial.growth;
}
