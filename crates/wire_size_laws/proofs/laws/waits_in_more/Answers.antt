use Rattle.wire_size_laws.proofs.Fewer.{waits_in_more}
use Rattle.wire_size_laws.proofs.laws.waits_in_more.Goals as goal

pub returns : goal.returns
returns c = waits_in_more
