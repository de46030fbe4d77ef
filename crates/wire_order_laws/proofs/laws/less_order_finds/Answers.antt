use Rattle.wire_order_laws.proofs.LessOrder.{less_order_finds}
use Rattle.wire_order_laws.proofs.laws.less_order_finds.Goals as goal

pub returns : goal.returns
returns c = less_order_finds
