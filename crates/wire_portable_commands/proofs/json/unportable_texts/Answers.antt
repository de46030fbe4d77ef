use Rattle.std.proofs.Common.{refl}
use Rattle.wire_types.specs.Forms.{has_places}
use Rattle.wire_types.specs.Texts.{lists_of}
use Rattle.wire_report.proofs.Appended.{next_words}
use Rattle.wire_portable_commands.specs.Json.{json_unportable}
use Rattle.wire_portable_commands.proofs.json.unportable_texts.Goals as goal

pub loop-line-preserved : goal.loop-line-preserved
loop-line-preserved c =
    next_words (λ t. t.items) (json_unportable (has_places c.args.telling.form) (lists_of c.args.telling.places.rows.now) c.args.scripts.now) c.args.lines.now c.loop-line.line-index _
    c.loop-line.texts.items _ _ _ _ c.loop-line-test.true c.loop-line.invariant refl c.in_ok-unportable_json.ensures c.in_ok-push.ensures.items
