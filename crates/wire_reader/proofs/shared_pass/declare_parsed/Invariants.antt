use Rattle.std.proofs.Common.{◌≡◌, List, length}
use Rattle.std.specs.Vec.Iter.{into_iter_items, into_iter_len}
use Rattle.wire_reader.specs.Statements.{Statement}
use Rattle.wire_reader.specs.Drafted.{declared_of}
use Rattle.wire_reader.specs.Pieces.{AreParsed}
use Rattle.wire_reader.proofs.Declaring.{Goes}
use Rattle.wire_reader.proofs.shared_pass.declare_parsed.Given as goal

abbrev pub invariant-loop-line : goal.invariant-loop-line
invariant-loop-line l = record {
  size : into_iter_len l.line-iterator ≡ length (into_iter_items l.line-iterator);
  so_far : (lines : List Statement) → AreParsed lines (into_iter_items l.initial.line-iterator) → Goes (declared_of l.initial.draft) (declared_of l.draft) lines (into_iter_items l.line-iterator);
}
