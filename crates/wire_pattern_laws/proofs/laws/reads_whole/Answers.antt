use Rattle.wire_pattern_laws.proofs.MoreTurns.{reads_whole}
use Rattle.wire_pattern_laws.proofs.laws.reads_whole.Goals as goal

pub returns : goal.returns
returns c = reads_whole
