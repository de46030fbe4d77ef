use Rattle.std.proofs.Common.{◌≡◌, ◌++◌, drop}
use Rattle.wire_types.specs.Texts.{lists_of}
use Rattle.wire_instances.specs.Views.{cast_by}
use Rattle.wire_pattern_answers.specs.Notes.{notes_from}
use Rattle.wire_pattern_answers.proofs.instance.notes_by.Given as goal

abbrev pub invariant-loop-number : goal.invariant-loop-number
invariant-loop-number l =
    l.notes.items ++ notes_from l.pattern (cast_by l.cast) l.scripts l.number (drop l.number l.role-items) (drop l.number (lists_of l.rows))
    ≡ notes_from l.pattern (cast_by l.cast) l.scripts 0 l.role-items (lists_of l.rows)
