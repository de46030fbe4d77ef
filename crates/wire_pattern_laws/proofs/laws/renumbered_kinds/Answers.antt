use Rattle.wire_pattern_laws.proofs.NumbersBack.{renumbered_kinds}
use Rattle.wire_pattern_laws.proofs.laws.renumbered_kinds.Goals as goal

pub returns : goal.returns
returns c = renumbered_kinds
