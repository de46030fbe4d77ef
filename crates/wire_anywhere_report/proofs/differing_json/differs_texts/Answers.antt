use Rattle.wire_types.specs.Forms.{has_places}
use Rattle.wire_types.specs.Texts.{lists_of}
use Rattle.wire_anywhere_report.specs.Differing.{json_differs}
use Rattle.wire_anywhere_report.proofs.Listed.{one_text_more}
use Rattle.wire_anywhere_report.proofs.differing_json.differs_texts.Goals as goal

pub loop-one-preserved : goal.loop-one-preserved
loop-one-preserved c =
    one_text_more (json_differs (has_places c.args.form) (lists_of c.args.rows.now) c.args.scripts.now) c.args.differing.now c.loop-one.one-index _ c.loop-one.texts.items _ _ _
    c.loop-one-test.true c.loop-one.invariant c.in_ok-push.ensures.items c.in_ok-differs_json.ensures
