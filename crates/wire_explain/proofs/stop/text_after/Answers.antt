use Rattle.std.proofs.Common.{ap}
use Rattle.wire_explain.proofs.stop.text_after.Goals as goal

pub text_by-text-requires : goal.text_by-text-requires
text_by-text-requires c = ap (λ core. core.history) c.in_ok-core.ensures.ok
