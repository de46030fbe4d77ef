use Rattle.std.proofs.Common.{◌∙◌, ap, subst}
use Rattle.wire_scripts.specs.Planned.{plan_of}
use Rattle.wire_runs.specs.Races.{IsSettled}
use Rattle.wire_parallel_run.specs.Trails.{told_outcome}
use Rattle.wire_parallel_run.proofs.Plainly.{told_plainly}
use Rattle.wire_parallel_run.proofs.outcome.outcome_of.Goals as goal

pub returns-clause-ok : goal.returns-clause-ok
returns-clause-ok c =
    let same = c.plan.ensures.same in
    let trails = c.args.trails.now in
    c.in_ok-outcome.ensures.ok
    ∙ ap (λ scripts. told_outcome (plan_of scripts) trails) same
    ∙ told_plainly c.args.settled.now c.args.words.now trails (subst (λ scripts. IsSettled (plan_of scripts)) same c.plan.ensures.settled) c.requires.words c.requires.trails
    (c.all_at_rest.ensures.0 c.if-not-all_at_rest.false)
