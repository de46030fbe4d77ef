use Rattle.std.proofs.Common.{map}
use Rattle.wire_commands.specs.CallsJson.{json_tried}
use Rattle.wire_commands.proofs.Listed.{one_text_more}
use Rattle.wire_commands.proofs.witnesses.tried_texts.Goals as goal

pub loop-one-preserved : goal.loop-one-preserved
loop-one-preserved c =
    one_text_more (json_tried (map (λ row. row.items) c.args.rows.now) c.args.scripts.now) c.args.tried.now c.loop-one.one-index _ c.loop-one.texts.items _ _ _ c.loop-one-test.true
    c.loop-one.invariant c.in_ok-push.ensures.items c.in_ok-tried_json.ensures
