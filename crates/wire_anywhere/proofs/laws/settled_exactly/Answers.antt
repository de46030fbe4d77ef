use Rattle.wire_anywhere.proofs.Whole.{none_found}
use Rattle.wire_anywhere.proofs.laws.settled_exactly.Goals as goal

pub returns : goal.returns
returns c = none_found
