use Rattle.wire_size_laws.proofs.Fewer.{fewer_answered}
use Rattle.wire_size_laws.proofs.laws.fewer_answered.Goals as goal

pub returns : goal.returns
returns c = fewer_answered
