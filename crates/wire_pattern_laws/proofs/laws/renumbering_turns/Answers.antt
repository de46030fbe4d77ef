use Rattle.wire_pattern_laws.proofs.NumbersBack.{renumbering_turns}
use Rattle.wire_pattern_laws.proofs.laws.renumbering_turns.Goals as goal

pub returns : goal.returns
returns c = renumbering_turns
