use Rattle.std.proofs.Common.{◌≡◌, ◌++◌, drop}
use Rattle.wire_pattern_answers.specs.Notes.{process_notes}
use Rattle.wire_pattern_answers.proofs.notes.add_notes.Given as goal

abbrev pub invariant-loop-number : goal.invariant-loop-number
invariant-loop-number l =
    l.out.items ++ process_notes l.role (drop l.number l.row) (drop l.number l.calls) (drop l.number l.places)
    ≡ l.fn.out.items ++ process_notes l.role l.row l.calls l.places
