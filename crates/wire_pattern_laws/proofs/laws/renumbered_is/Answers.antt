use Rattle.wire_pattern_laws.proofs.NumbersBack.{renumbered_is}
use Rattle.wire_pattern_laws.proofs.laws.renumbered_is.Goals as goal

pub returns : goal.returns
returns c = renumbered_is
