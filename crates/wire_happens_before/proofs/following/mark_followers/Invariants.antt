use Rattle.std.proofs.Common.{◌≡◌, ◌<◌, ◌≤◌, true, false}
use Rattle.wire_happens_before.specs.Meeting.{left_in, IsGrowing}
use Rattle.wire_happens_before.specs.Following.{AreKindsOf, last_root}
use Rattle.wire_happens_before.proofs.following.mark_followers.Given as goal

abbrev pub invariant-events : goal.invariant-events
invariant-events l = record {
  growing : IsGrowing l.growth;
  plan : l.growth.plan.now ≡ l.initial.growth.plan.now;
  kinds : AreKindsOf l.growth.plan.now l.proc.number l.kinds;
  root : l.root ≡ last_root l.growth.clocks l.proc.number;
  not_more : left_in l.growth ≤ left_in l.initial.growth;
  falls : l.moved ≡ true → left_in l.growth < left_in l.initial.growth;
  same : l.moved ≡ false → l.growth.clocks.roots.items ≡ l.initial.growth.clocks.roots.items;
}

abbrev pub decreases-events : goal.decreases-events
decreases-events l = left_in l.growth
