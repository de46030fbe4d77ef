use Rattle.wire_fence.proofs.Missing.{somebody_is_missing}
use Rattle.wire_fence.proofs.laws.somebody_is_missing.Goals as goal

pub returns : goal.returns
returns c = somebody_is_missing
