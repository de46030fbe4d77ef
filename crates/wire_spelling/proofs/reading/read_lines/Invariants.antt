use Rattle.std.proofs.Common.{length}
use Rattle.wire_spelling.specs.Reads.{IsReadUpTo}
use Rattle.wire_spelling.proofs.reading.read_lines.Given as goal

abbrev pub invariant-lines : goal.invariant-lines
invariant-lines l = IsReadUpTo l.reading l.rest l.text

abbrev pub decreases-lines : goal.decreases-lines
decreases-lines l = length l.rest
