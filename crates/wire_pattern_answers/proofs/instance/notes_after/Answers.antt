use Rattle.wire_types.specs.Texts.{lists_of}
use Rattle.wire_instances.specs.Views.{cast_by}
use Rattle.wire_pattern_answers.proofs.Noted.{scripts_told}
use Rattle.wire_pattern_answers.proofs.instance.notes_after.Goals as goal

pub returns : goal.returns
returns c = λ by.
    scripts_told c.args.pattern.now (cast_by c.args.cast.now) c.args.scripts.now c.in_ok-notes.notes.items (lists_of c.args.rows.now) c.in_ok-notes.ensures by
