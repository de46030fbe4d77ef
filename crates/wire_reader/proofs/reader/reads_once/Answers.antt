use Rattle.wire_reader.proofs.Once.{reads_once}
use Rattle.wire_reader.proofs.reader.reads_once.Goals as goal

pub returns : goal.returns
returns c = reads_once
