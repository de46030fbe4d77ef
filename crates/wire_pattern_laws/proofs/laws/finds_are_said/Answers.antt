use Rattle.wire_pattern_laws.proofs.SmallFinds.{finds_are_said}
use Rattle.wire_pattern_laws.proofs.laws.finds_are_said.Goals as goal

pub returns : goal.returns
returns c = finds_are_said
