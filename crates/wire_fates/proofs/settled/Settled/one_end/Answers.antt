use Rattle.std.proofs.Common.{subst}
use Rattle.wire_scripts.specs.Planned.{plan_of}
use Rattle.wire_runs.specs.Races.{IsSettled}
use Rattle.wire_runs.proofs.OneEnd.{settled_one_end}
use Rattle.wire_runs.proofs.PlainRun.{plain_runs}
use Rattle.wire_fates.proofs.settled.Settled.one_end.Goals as goal

pub returns-clause-one : goal.returns-clause-one
returns-clause-one c = λ v w. settled_one_end (plan_of c.args.self.now) v w (subst (λ s. IsSettled (plan_of s)) c.self.view_is c.self.invariant.0)

pub returns-clause-plain : goal.returns-clause-plain
returns-clause-plain c = (plain_runs (plan_of c.args.self.now)).is_the_end (subst (λ s. IsSettled (plan_of s)) c.self.view_is c.self.invariant.0)
