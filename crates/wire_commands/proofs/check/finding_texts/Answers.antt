use Rattle.std.proofs.Common.{map, sym}
use Rattle.wire_commands.specs.CallsJson.{json_finding}
use Rattle.wire_commands.proofs.Listed.{one_more_text}
use Rattle.wire_commands.proofs.check.finding_texts.Goals as goal

pub loop-number-preserved : goal.loop-number-preserved
loop-number-preserved c =
    one_more_text (json_finding (map (λ row. row.items) c.args.rows.now) c.args.scripts.now) c.args.findings.now c.loop-number.number c.in-Some.finding c.loop-number.texts.items _ _
    (sym c.in-Some.ensures) c.loop-number.invariant c.in_ok-push.ensures.items c.in_ok-finding_json.ensures
