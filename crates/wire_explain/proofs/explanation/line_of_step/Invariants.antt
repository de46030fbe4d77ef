use Rattle.std.proofs.Common.{◌≡◌, ◌<◌, ◌+◌, ◌^◌, length, slice_get}
use Rattle.wire_reader.specs.Statements.{statements}
use Rattle.wire_reader.specs.Left.{statements_left}
use Rattle.wire_explain.proofs.explanation.line_of_step.Given as goal

abbrev pub invariant-lines : goal.invariant-lines
invariant-lines l = record {
  left : slice_get (statements_left l.cursor) l.before ≡ slice_get (statements l.bytes) l.step;
  room : l.cursor.line + length l.cursor.rest.now < 2 ^ 64;
}

abbrev pub decreases-lines : goal.decreases-lines
decreases-lines l = length (statements_left l.cursor)
