use Rattle.std.proofs.Common.{sym}
use Rattle.wire_types.specs.Forms.{has_places}
use Rattle.wire_types.specs.Texts.{lists_of}
use Rattle.wire_anywhere_report.specs.PlacedJson.{json_placed}
use Rattle.wire_anywhere_report.proofs.Listed.{next_text}
use Rattle.wire_anywhere_report.proofs.placed_json.placed_texts.Goals as goal

pub loop-number-preserved : goal.loop-number-preserved
loop-number-preserved c =
    next_text (json_placed (has_places c.args.form) (lists_of c.args.rows.now) c.args.scripts.now) c.args.found.now c.loop-number.number c.in-Some.placed c.loop-number.texts.items _ _
    (sym c.in-Some.ensures) c.loop-number.invariant c.in_ok-push.ensures.items c.in_ok-placed_json.ensures
