use Rattle.wire_anywhere_report.specs.PlacedJson.{json_group}
use Rattle.wire_anywhere_report.proofs.Listed.{one_text_more}
use Rattle.wire_anywhere_report.proofs.placed_json.group_texts.Goals as goal

pub loop-group-preserved : goal.loop-group-preserved
loop-group-preserved c =
    one_text_more json_group c.args.groups.now c.loop-group.group-index _ c.loop-group.texts.items _ _ _ c.loop-group-test.true
    c.loop-group.invariant c.in_ok-push.ensures.items c.in_ok-group_json.ensures
