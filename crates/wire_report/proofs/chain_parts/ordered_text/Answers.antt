use Rattle.wire_report.proofs.Forms.{chain_parts}
use Rattle.wire_report.proofs.chain_parts.ordered_text.Goals as goal

pub returns : goal.returns
returns c = record {
  ok = chain_parts c.args.json c.args.first c.args.plan.now _ _ _ _ c.if-json.false c.order_line.ensures c.in_ok-text.ensures.items c.in_ok-push_events.ensures;
  err = tt;
}
