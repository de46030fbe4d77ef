use Rattle.std.proofs.Common.{◌≡◌, ◌<◌, ◌≤◌, true, false}
use Rattle.wire_happens_before.specs.Meeting.{left_in, IsGrowing}
use Rattle.wire_happens_before.proofs.grow.mark_run.Given as goal

abbrev pub invariant-events : goal.invariant-events
invariant-events l = record {
  growing : IsGrowing l.growth;
  plan : l.growth.plan.now ≡ l.fn.growth.plan.now;
  not_more : left_in l.growth ≤ left_in l.fn.growth;
  falls : l.moved ≡ true → left_in l.growth < left_in l.fn.growth;
  same : l.moved ≡ false → l.growth.clocks.roots.items ≡ l.fn.growth.clocks.roots.items;
}

abbrev pub decreases-events : goal.decreases-events
decreases-events l = left_in l.growth
