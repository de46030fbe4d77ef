use Rattle.wire_report.proofs.Forms.{unordered_parts}
use Rattle.wire_report.proofs.chain_parts.dead_text.Goals as goal

pub returns : goal.returns
returns c = record {
  ok = unordered_parts c.args.json c.args.scripts.now c.args.dead.now _ _ _ c.if-json.false c.as_slice.ensures c.in_ok-text.ensures.items c.in_ok-push_dead_lines.ensures;
  err = tt;
}
