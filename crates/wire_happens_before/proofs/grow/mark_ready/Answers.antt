use Rattle.std.proofs.Common.{◌∙◌}
use Rattle.std.proofs.lemmas.Bool.{OnFalse_at}
use Rattle.wire_happens_before.specs.Meeting.{left_in}
use Rattle.wire_happens_before.proofs.Growing.{pass_falls}
use Rattle.wire_happens_before.proofs.grow.mark_ready.Goals as goal

pub passes-preserved : goal.passes-preserved
passes-preserved c = record {
  growing = c.in_ok-moved.ensures.growing;
  plan = c.mark_once.ensures.plan ∙ (c.mark_along_waits.ensures.plan ∙ c.passes.invariant.plan);
  stuck = λ none. OnFalse_at none c.in_ok-moved.ensures.stuck;
}

pub passes-smaller : goal.passes-smaller
passes-smaller c =
    pass_falls c.in_ok-moved.moved c.passes.moved (left_in c.mark_once.new.growth) (left_in c.mark_along_waits.new.growth) (left_in c.passes.growth) c.passes-test.true
    c.in_ok-mark_along_waits.ensures.not_more c.in_ok-moved.ensures.not_more c.in_ok-moved.ensures.falls

pub returns-clause-stuck : goal.returns-clause-stuck
returns-clause-stuck c = c.passes.invariant.stuck c.passes-test.false
