use Rattle.std.proofs.Common.{◌≡◌, ◌≤◌}
use Rattle.wire_happens_before.specs.Meeting.{left_in, IsGrowing}
use Rattle.wire_happens_before.proofs.grow.mark_way_down.Given as goal

abbrev pub invariant-loop-step : goal.invariant-loop-step
invariant-loop-step l = record {
  growing : IsGrowing l.growth;
  plan : l.growth.plan.now ≡ l.initial.growth.plan.now;
  not_more : left_in l.growth ≤ left_in l.initial.growth;
}
