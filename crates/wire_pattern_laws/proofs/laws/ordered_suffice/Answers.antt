use Rattle.wire_pattern_laws.proofs.SmallOrdered.{ordered_suffice}
use Rattle.wire_pattern_laws.proofs.laws.ordered_suffice.Goals as goal

pub returns : goal.returns
returns c = ordered_suffice
