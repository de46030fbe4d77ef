use Rattle.wire_order_laws.proofs.OrderThere.{order_there_finds}
use Rattle.wire_order_laws.proofs.laws.order_there_finds.Goals as goal

pub returns : goal.returns
returns c = order_there_finds
