use Rattle.std.proofs.Common.{refl, sym, arith}
use Rattle.std.proofs.lemmas.Bool.{true≢false, OnTrue_from, OnFalse_from}
use Rattle.wire_happens_before.proofs.Followers.{follower_there, follower_growing, follower_falls, follower_root}
use Rattle.wire_happens_before.proofs.following.mark_followers.Goals as goal

pub events-init : goal.events-init
events-init c = record {
  growing = c.requires;
  plan = refl;
  kinds = c.events-kinds.ensures;
  root = c.last_root-root.ensures;
  not_more = omega arith;
  falls = λ some. absurd (true≢false (sym some));
  same = λ none. refl;
}

pub push-requires : goal.push-requires
push-requires c =
    follower_there c.events.growth.plan.now c.events.growth.clocks c.args.proc.number c.last_root-root.result c.marked.result c.events-kinds.result.now c.events.invariant.growing.marked c.events.invariant.kinds
    c.events.invariant.growing.fences.sound.counted.few_calls c.marked.ensures (c.follows_at.ensures.0 c.events-test.true) c.events.invariant.root

pub events-smaller : goal.events-smaller
events-smaller c =
    follower_falls c.events.growth.plan.now c.events.growth.clocks c.args.proc.number c.last_root-root.result c.marked.result c.events-kinds.result.now c.events.invariant.growing.marked c.events.invariant.kinds
    c.events.invariant.growing.fences.sound.counted.few_calls c.marked.ensures (c.follows_at.ensures.0 c.events-test.true) c.events.invariant.root c.push.new.self c.in_ok-push.ensures.adds c.push.ensures.updates

pub events-preserved : goal.events-preserved
events-preserved c =
    let grown = follower_growing c.events.growth.plan.now c.events.growth.clocks c.args.proc.number c.last_root-root.result c.marked.result c.events-kinds.result.now c.events.invariant.growing.marked c.events.invariant.kinds
    c.events.invariant.growing.fences.sound.counted.few_calls c.marked.ensures (c.follows_at.ensures.0 c.events-test.true) c.events.invariant.root c.push.new.self c.in_ok-push.ensures.adds c.push.ensures.updates
    c.events.growth.fences.now c.events.growth.meetings.items c.events.invariant.growing.kept in
    let less = follower_falls c.events.growth.plan.now c.events.growth.clocks c.args.proc.number c.last_root-root.result c.marked.result c.events-kinds.result.now c.events.invariant.growing.marked c.events.invariant.kinds
    c.events.invariant.growing.fences.sound.counted.few_calls c.marked.ensures (c.follows_at.ensures.0 c.events-test.true) c.events.invariant.root c.push.new.self c.in_ok-push.ensures.adds c.push.ensures.updates in
    let before = c.events.invariant.not_more in
    record {
      growing = record { fences = c.events.invariant.growing.fences; marked = grown.0; kept = grown.1 };
      plan = c.events.invariant.plan;
      kinds = c.events.invariant.kinds;
      root = follower_root c.events.growth.plan.now c.events.growth.clocks c.args.proc.number c.last_root-root.result c.marked.result c.events-kinds.result.now c.events.invariant.growing.marked c.events.invariant.kinds
          c.events.invariant.growing.fences.sound.counted.few_calls c.marked.ensures (c.follows_at.ensures.0 c.events-test.true) c.events.invariant.root c.push.new.self c.in_ok-push.ensures.adds c.push.ensures.updates;
      not_more = omega (arith, before, less);
      falls = λ some. omega (arith, before, less);
      same = λ none. absurd (true≢false none);
    }

pub returns-clause-falls : goal.returns-clause-falls
returns-clause-falls c = OnTrue_from c.events.moved _ c.events.invariant.falls

pub returns-clause-same : goal.returns-clause-same
returns-clause-same c = OnFalse_from c.events.moved _ c.events.invariant.same
