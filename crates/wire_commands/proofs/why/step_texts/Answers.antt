use Rattle.std.proofs.Common.{map}
use Rattle.wire_commands.specs.CallsJson.{json_step}
use Rattle.wire_commands.proofs.Listed.{one_text_more}
use Rattle.wire_commands.proofs.why.step_texts.Goals as goal

pub loop-step-preserved : goal.loop-step-preserved
loop-step-preserved c =
    one_text_more (json_step (map (λ row. row.items) c.args.rows.now) c.args.scripts.now) c.args.steps.now c.loop-step.step-index _ c.loop-step.texts.items _ _ _ c.loop-step-test.true
    c.loop-step.invariant c.in_ok-push.ensures.items c.in_ok-step_json.ensures
