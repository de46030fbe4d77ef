use Rattle.std.proofs.Common.{◌≡◌, length, slice_get}
use Rattle.wire_lines.specs.Text.{lines_of}
use Rattle.wire_explain.specs.Quote.{line_at}
use Rattle.wire_explain.proofs.quote.find_line.Given as goal

abbrev pub invariant-lines : goal.invariant-lines
invariant-lines l = slice_get (lines_of l.rest) l.before ≡ line_at l.bytes l.number

abbrev pub decreases-lines : goal.decreases-lines
decreases-lines l = length l.rest
