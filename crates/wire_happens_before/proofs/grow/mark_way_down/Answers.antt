use Rattle.std.proofs.Common.{◌∙◌, arith}
use Rattle.wire_happens_before.proofs.grow.mark_way_down.Goals as goal

pub loop-step-preserved : goal.loop-step-preserved
loop-step-preserved c = record {
  growing = c.in_ok-mark_run.ensures.growing;
  plan = c.mark_run.ensures.plan ∙ c.loop-step.invariant.plan;
  not_more = let before = c.loop-step.invariant.not_more in let after = c.in_ok-mark_run.ensures.not_more in omega (arith, before, after);
}
