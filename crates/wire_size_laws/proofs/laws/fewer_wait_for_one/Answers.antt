use Rattle.wire_size_laws.proofs.Fewer.{fewer_wait_for_one}
use Rattle.wire_size_laws.proofs.laws.fewer_wait_for_one.Goals as goal

pub returns : goal.returns
returns c = fewer_wait_for_one
