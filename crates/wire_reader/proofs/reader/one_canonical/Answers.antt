use Rattle.wire_reader.proofs.ReadBack.{one_canonical}
use Rattle.wire_reader.proofs.reader.one_canonical.Goals as goal

pub returns : goal.returns
returns c = one_canonical
