use Rattle.wire_anywhere.proofs.Whole.{one_found}
use Rattle.wire_anywhere.proofs.laws.one_list.Goals as goal

pub returns : goal.returns
returns c = one_found
