use Rattle.std.proofs.Common.{◌≡◌, ◌||◌, ℕ, drop}
use Rattle.wire_types.specs.declared.Status.{Status}
use Rattle.wire_pattern_answers.specs.FewPlacings.{IsOfThree}
use Rattle.wire_pattern_answers.specs.Notes.{is_noted, is_told}
use Rattle.wire_pattern_answers.proofs.told.StatusesByLine.add_all.Given as goal

abbrev pub invariant-loop-note : goal.invariant-loop-note
invariant-loop-note l =
    (role line : ℕ) (status : Status) → IsOfThree status → (is_told l.self role line status || is_noted (drop l.note-index l.notes) role line status)
    ≡ (is_told l.fn.self role line status || is_noted l.notes role line status)
