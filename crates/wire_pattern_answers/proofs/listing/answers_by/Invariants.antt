use Rattle.std.proofs.Common.{◌≡◌, map, take}
use Rattle.wire_pattern_answers.specs.Notes.{told_of}
use Rattle.wire_pattern_answers.proofs.listing.answers_by.Given as goal

abbrev pub invariant-loop-line : goal.invariant-loop-line
invariant-loop-line l = l.answers.items ≡ map (told_of l.told) (take l.line-index l.lines)
