use Rattle.std.proofs.Common.{subst}
use Rattle.wire_scripts.specs.Planned.{plan_of}
use Rattle.wire_runs.specs.Races.{IsSettled}
use Rattle.wire_runs.proofs.Fates.{fates_tell}
use Rattle.wire_fates.proofs.settled.Settled.fates_tell.Goals as goal

pub returns : goal.returns
returns c = λ s. fates_tell (plan_of c.args.self.now) s (subst (λ v. IsSettled (plan_of v)) c.self.view_is c.self.invariant.0)
