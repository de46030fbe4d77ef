use Rattle.std.proofs.Common.{◌≡◌, drop}
use Rattle.wire_pattern_answers.specs.Notes.{is_open}
use Rattle.wire_pattern_answers.proofs.told.StatusesByLine.is_open.Given as goal

abbrev pub invariant-loop-note : goal.invariant-loop-note
invariant-loop-note l = is_open l.self (drop l.note-index l.notes) ≡ is_open l.self l.notes
