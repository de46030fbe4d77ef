use Rattle.std.proofs.Common.{◌≡◌, ◌≤◌, ◌+◌, ◌++◌, length}
use Rattle.std.specs.List.{All}
use Rattle.wire_reader.specs.Left.{statements_left}
use Rattle.wire_reader.specs.Pieces.{HasRoom, all_left}
use Rattle.wire_reader.proofs.pieces.cut_pieces.Given as goal

abbrev pub invariant-pieces : goal.invariant-pieces
invariant-pieces l = record {
  so_far : all_left l.pieces.items ++ statements_left l.left ≡ statements_left l.fn.left;
  each : All HasRoom l.pieces.items;
  room : HasRoom l.left;
  shorter : length l.pieces.items + length l.left.rest.now ≤ length l.fn.left.rest.now;
}

abbrev pub decreases-pieces : goal.decreases-pieces
decreases-pieces l = length l.left.rest.now
