use Rattle.wire_pattern_script.proofs.Once.{reads_once}
use Rattle.wire_pattern_script.proofs.reader.pattern_reads_once.Goals as goal

pub returns : goal.returns
returns c = reads_once
