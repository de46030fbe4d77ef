use Rattle.wire_report.proofs.Forms.{unsettled_parts}
use Rattle.wire_report.proofs.unsettled.unsettled_text.Goals as goal

pub returns : goal.returns
returns c = record {
  ok = unsettled_parts c.args.json c.args.scripts.now _ _ _ _ _ _ c.if-json.false c.new-text.ensures.items c.in_ok-extend_from_slice.ensures.items c.in_ok-push_report.ensures c.in_ok-push_order.ensures;
  err = tt;
}
