use Rattle.std.proofs.Common.{map}
use Rattle.wire_commands.specs.CallsJson.{json_place}
use Rattle.wire_commands.proofs.Listed.{one_text_more}
use Rattle.wire_commands.proofs.why.place_texts.Goals as goal

pub loop-call-preserved : goal.loop-call-preserved
loop-call-preserved c =
    one_text_more (json_place (map (λ row. row.items) c.args.rows.now) c.args.scripts.now) c.args.calls.now c.loop-call.call-index _ c.loop-call.texts.items _ _ _ c.loop-call-test.true
    c.loop-call.invariant c.in_ok-push.ensures.items c.in_ok-place_json.ensures
