use Rattle.std.proofs.Common.{subst}
use Rattle.wire_scripts.specs.Planned.{plan_of}
use Rattle.wire_runs.specs.Races.{IsSettled}
use Rattle.wire_runs.specs.Fate.{Fate, HasFate}
use Rattle.wire_runs.proofs.Fates.{one_fate}
use Rattle.wire_runs.proofs.HaveFates.{have_fates}
use Rattle.wire_fates.proofs.Marked.{marks_of}
use Rattle.wire_fates.proofs.settled.Settled.has_fates.Goals as goal

pub returns-clause-some : goal.returns-clause-some
returns-clause-some c = λ y.
    let inside = plan_of c.self.inside.plan in
    subst (λ s. (fate : Fate) × HasFate (plan_of s) y fate) c.self.view_is
    (have_fates inside c.self.invariant.0 (marks_of inside c.self.inside.marks c.self.invariant.1) y)

pub returns-clause-one : goal.returns-clause-one
returns-clause-one c = λ y a b. one_fate (plan_of c.args.self.now) y a b (subst (λ s. IsSettled (plan_of s)) c.self.view_is c.self.invariant.0)
