use Rattle.std.proofs.Common.{◌≡◌, List, length}
use Rattle.std.specs.Vec.Iter.{into_iter_items, into_iter_len}
use Rattle.wire_reader.specs.declared.lines.Cursor.{Cursor}
use Rattle.wire_reader.specs.Drafted.{declared_of}
use Rattle.wire_reader.specs.Pieces.{ArePiecesParsed}
use Rattle.wire_reader.proofs.Declaring.{GoesOver}
use Rattle.wire_reader.proofs.shared_pass.declare_rows.Given as goal

abbrev pub invariant-loop-parsed : goal.invariant-loop-parsed
invariant-loop-parsed l = record {
  size : into_iter_len l.parsed-iterator ≡ length (into_iter_items l.parsed-iterator);
  so_far : (pieces : List Cursor) → ArePiecesParsed pieces (into_iter_items l.initial.parsed-iterator) → GoesOver (declared_of l.initial.draft) (declared_of l.draft) pieces (into_iter_items l.parsed-iterator);
}
