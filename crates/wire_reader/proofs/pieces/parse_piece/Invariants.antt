use Rattle.std.proofs.Common.{List, ◌++◌, length}
use Rattle.wire_reader.specs.Left.{statements_left}
use Rattle.wire_reader.specs.Pieces.{HasRoom, AreParsed}
use Rattle.wire_reader.specs.declared.pieces.Parsed.{Parsed}
use Rattle.wire_reader.proofs.pieces.parse_piece.Given as goal

abbrev pub invariant-statements : goal.invariant-statements
invariant-statements l = record {
  so_far : (more : List Parsed) → AreParsed (statements_left l.left) more → AreParsed (statements_left l.initial.left) (l.parsed.items ++ more);
  room : HasRoom l.left;
}

abbrev pub decreases-statements : goal.decreases-statements
decreases-statements l = length (statements_left l.left)
