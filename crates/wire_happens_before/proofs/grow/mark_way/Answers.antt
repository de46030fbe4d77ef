use Rattle.std.proofs.Common.{◌∙◌, arith}
use Rattle.wire_happens_before.proofs.grow.mark_way.Goals as goal

pub loop-number-preserved : goal.loop-number-preserved
loop-number-preserved c = record {
  growing = c.in_ok-mark_way_down.ensures.growing;
  plan = c.mark_way_down.ensures.plan ∙ c.loop-number.invariant.plan;
  not_more = let before = c.loop-number.invariant.not_more in let after = c.in_ok-mark_way_down.ensures.not_more in omega (arith, before, after);
}

pub loop-k-preserved : goal.loop-k-preserved
loop-k-preserved c = record {
  growing = c.in_ok-mark_run.ensures.growing;
  plan = c.mark_run.ensures.plan ∙ c.loop-k.invariant.plan;
  not_more = let before = c.loop-k.invariant.not_more in let after = c.in_ok-mark_run.ensures.not_more in omega (arith, before, after);
}

pub returns-clause-plan : goal.returns-clause-plan
returns-clause-plan c = c.loop-k.invariant.plan ∙ c.loop-number.invariant.plan

pub returns-clause-not_more : goal.returns-clause-not_more
returns-clause-not_more c = let before = c.loop-number.invariant.not_more in let after = c.loop-k.invariant.not_more in omega (arith, before, after)
