use Rattle.wire_fence.proofs.Missing.{arriving_is_missing}
use Rattle.wire_fence.proofs.laws.arriving_is_missing.Goals as goal

pub returns : goal.returns
returns c = arriving_is_missing
