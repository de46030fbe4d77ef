use Rattle.wire_pattern_laws.proofs.FindsInFuller.{reads_find}
use Rattle.wire_pattern_laws.proofs.laws.reads_find.Goals as goal

pub returns : goal.returns
returns c = reads_find
