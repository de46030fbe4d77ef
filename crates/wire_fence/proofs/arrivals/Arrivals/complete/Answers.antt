use Rattle.std.proofs.Common.{◌∙◌, ◌==◌, ap}
use Rattle.wire_fence.proofs.Missing.{complete_is}
use Rattle.wire_fence.proofs.arrivals.Arrivals.complete.Goals as goal

pub returns-clause-complete : goal.returns-clause-complete
returns-clause-complete c = λ s cut table info tells there. ap (λ n. n == 0) c.missing_at.ensures ∙ complete_is s cut table c.args.self.now c.args.fence.number info tells there
