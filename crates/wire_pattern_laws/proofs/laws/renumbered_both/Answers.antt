use Rattle.wire_pattern_laws.proofs.NumbersBack.{renumbered_both}
use Rattle.wire_pattern_laws.proofs.laws.renumbered_both.Goals as goal

pub returns : goal.returns
returns c = renumbered_both
