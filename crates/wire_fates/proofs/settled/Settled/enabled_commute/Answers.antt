use Rattle.std.proofs.Common.{subst}
use Rattle.wire_scripts.specs.Planned.{plan_of}
use Rattle.wire_runs.specs.Races.{IsSettled}
use Rattle.wire_runs.proofs.OneEnd.{enabled_commute}
use Rattle.wire_fates.proofs.settled.Settled.enabled_commute.Goals as goal

pub returns : goal.returns
returns c = λ s p q. enabled_commute (plan_of c.args.self.now) s p q (subst (λ v. IsSettled (plan_of v)) c.self.view_is c.self.invariant.0)
