use Rattle.wire_pattern_laws.proofs.StatusesNumbered.{renumbered_finds}
use Rattle.wire_pattern_laws.proofs.laws.renumbered_finds.Goals as goal

pub returns : goal.returns
returns c = renumbered_finds
