use Rattle.wire_order_laws.proofs.WholeFences.{fewer_fences_find}
use Rattle.wire_order_laws.proofs.laws.fewer_fences_find.Goals as goal

pub returns : goal.returns
returns c = fewer_fences_find
