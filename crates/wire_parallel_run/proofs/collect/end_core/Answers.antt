use Rattle.std.proofs.Common.{ap, sym, ◌∙◌}
use Rattle.wire_core.specs.Course.{Course}
use Rattle.wire_parallel_run.proofs.collect.end_core.Goals as goal

pub returns-then-ended-clause-plan : goal.returns-then-ended-clause-plan
returns-then-ended-clause-plan g c = sym c.plan.ensures ∙ c.eq.ensures.same.0 c.if-eq.true

pub returns-then-ended-clause-ended : goal.returns-then-ended-clause-ended
returns-then-ended-clause-ended g c = c.ended-ended.ensures.0 c.if-ended.true

pub returns-clause-ended : goal.returns-clause-ended
returns-clause-ended g c = assumption c

pub returns-clause-plan : goal.returns-clause-plan
returns-clause-plan g c =
    ap (λ (course : Course). course.scripts) c.run_lowest.ensures.run
    ∙ ap (λ (course : Course). course.scripts) c.in_ok-core.ensures.ok
