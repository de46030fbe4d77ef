use Rattle.wire_reader.proofs.ReadBack.{reads_back}
use Rattle.wire_reader.proofs.reader.reads_back.Goals as goal

pub returns : goal.returns
returns c = reads_back
