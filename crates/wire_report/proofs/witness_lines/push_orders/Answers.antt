use Rattle.std.proofs.Common.{refl}
use Rattle.wire_report.proofs.Appended.{last_more}
use Rattle.wire_report.proofs.witness_lines.push_orders.Goals as goal

pub returns : goal.returns
returns c = last_more c.push_order-2.result c.args.out.now.items _ _ _ _ _ c.in_ok-push_order.ensures c.push_order-2.ensures refl
