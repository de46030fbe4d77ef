use Rattle.std.proofs.Common.{◌∙◌, arith}
use Rattle.std.proofs.lemmas.Bool.{true≢false, OnTrue_at, OnTrue_from, OnFalse_at, OnFalse_from}
use Rattle.wire_happens_before.proofs.Growing.{left_same}
use Rattle.wire_happens_before.proofs.grow.mark_run.Goals as goal

pub events-init : goal.events-init
events-init c = record {
  growing = c.in_ok-moved.ensures.growing;
  plan = c.mark_followers.ensures.plan;
  not_more = c.in_ok-moved.ensures.not_more;
  falls = λ some. OnTrue_at some c.in_ok-moved.ensures.falls;
  same = λ none. OnFalse_at none c.in_ok-moved.ensures.same;
}

pub events-smaller : goal.events-smaller
events-smaller c = let less = OnTrue_at c.if-branch.true c.in_ok-mark_next.ensures.falls in let after = c.in_ok-mark_followers.ensures.not_more in omega (arith, less, after)

pub events-preserved : goal.events-preserved
events-preserved c =
    let before = c.events.invariant.not_more in
    let less = OnTrue_at c.if-branch.true c.in_ok-mark_next.ensures.falls in
    let after = c.in_ok-mark_followers.ensures.not_more in
    record {
      growing = c.in_ok-mark_followers.ensures.growing;
      plan = c.mark_followers-in-events.ensures.plan ∙ (c.mark_next.ensures.plan ∙ c.events.invariant.plan);
      not_more = omega (arith, before, less, after);
      falls = λ some. omega (arith, before, less, after);
      same = λ none. absurd (true≢false none);
    }

pub returns-clause-not_more : goal.returns-clause-not_more
returns-clause-not_more c =
    let same = left_same c.events.growth.plan.now c.mark_next.new.growth.plan.now c.events.growth.clocks c.mark_next.new.growth.clocks c.mark_next.ensures.plan
    (OnFalse_at c.if-branch.false c.in_ok-mark_next.ensures.same) in
    let before = c.events.invariant.not_more in
    omega (arith, same, before)

pub returns-clause-falls : goal.returns-clause-falls
returns-clause-falls c =
    let same = left_same c.events.growth.plan.now c.mark_next.new.growth.plan.now c.events.growth.clocks c.mark_next.new.growth.clocks c.mark_next.ensures.plan
    (OnFalse_at c.if-branch.false c.in_ok-mark_next.ensures.same) in
    OnTrue_from c.events.moved _ (λ some. let less = c.events.invariant.falls some in omega (arith, same, less))

pub returns-clause-same : goal.returns-clause-same
returns-clause-same c = OnFalse_from c.events.moved _ (λ none. OnFalse_at c.if-branch.false c.in_ok-mark_next.ensures.same ∙ c.events.invariant.same none)

pub returns-clause-stuck : goal.returns-clause-stuck
returns-clause-stuck c = OnFalse_at c.if-branch.false c.in_ok-mark_next.ensures.stuck
