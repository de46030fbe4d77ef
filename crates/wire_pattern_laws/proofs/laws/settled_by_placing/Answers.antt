use Rattle.wire_pattern_laws.proofs.NumbersBack.{settled_by_placing}
use Rattle.wire_pattern_laws.proofs.laws.settled_by_placing.Goals as goal

pub returns : goal.returns
returns c = settled_by_placing
