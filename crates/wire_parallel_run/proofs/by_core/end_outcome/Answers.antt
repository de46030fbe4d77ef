use Rattle.std.proofs.Common.{◌∙◌, ap, sym, subst}
use Rattle.wire_scripts.specs.Planned.{plan_of}
use Rattle.wire_runs.specs.Races.{IsSettled}
use Rattle.wire_core.specs.EndsAfter.{plain_ends}
use Rattle.wire_parallel_run.proofs.AtRest.{ends_plainly}
use Rattle.wire_parallel_run.proofs.by_core.end_outcome.Goals as goal

pub returns-clause-ok : goal.returns-clause-ok
returns-clause-ok c =
    let core = c.args.core.now in
    let settled = subst (λ scripts. IsSettled (plan_of scripts)) c.plan.ensures.same c.plan.ensures.settled in
    let told = ends_plainly core.scripts core.history (subst (λ scripts. IsSettled (plan_of scripts)) (sym c.requires.scripts) settled) c.history.ensures.legal c.requires.ended in
    c.in_ok-outcome.ensures.ok ∙ told ∙ ap plain_ends c.requires.scripts
