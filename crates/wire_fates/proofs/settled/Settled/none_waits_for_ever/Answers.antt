use Rattle.std.proofs.Common.{subst}
use Rattle.std.specs.Prelude.{◌↔◌, IsTrue}
use Rattle.wire_scripts.specs.Planned.{plan_of}
use Rattle.wire_fates.specs.Waiting.{NoneWaitsForEver}
use Rattle.wire_fates.proofs.settled.Settled.none_waits_for_ever.Goals as goal

pub returns : goal.returns
returns c =
    subst (λ s. IsTrue c.none_waits_for_ever.result ↔ NoneWaitsForEver (plan_of s)) c.self.view_is
    (rw c.with.ensures at c.none_waits_for_ever.ensures)
