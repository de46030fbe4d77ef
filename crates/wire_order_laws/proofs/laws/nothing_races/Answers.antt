use Rattle.wire_order_laws.proofs.Unread.{nothing_races}
use Rattle.wire_order_laws.proofs.laws.nothing_races.Goals as goal

pub returns : goal.returns
returns c = nothing_races
