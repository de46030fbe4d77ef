use Rattle.std.proofs.Common.{◌≡◌, max}
use Rattle.wire_clocks.specs.Notes.{clock_number}
use Rattle.wire_clocks.proofs.notes.number_at.Given as goal

abbrev pub invariant-down : goal.invariant-down
invariant-down l = max (clock_number l.rows l.notes l.levels l.left l.at l.process) l.least ≡ clock_number l.rows l.notes l.levels 16 l.root l.process

abbrev pub decreases-down : goal.decreases-down
decreases-down l = l.left
