use Rattle.wire_size_laws.proofs.AllSizes.{staged_answered}
use Rattle.wire_size_laws.proofs.laws.staged_answered.Goals as goal

pub returns : goal.returns
returns c = staged_answered
