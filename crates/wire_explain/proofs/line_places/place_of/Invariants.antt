use Rattle.std.proofs.Common.{◌≡◌, ◌<◌, ◌+◌, ◌^◌, length}
use Rattle.wire_reader.specs.Left.{statements_left}
use Rattle.wire_explain.specs.Place.{place_from, place_of}
use Rattle.wire_explain.proofs.line_places.place_of.Given as goal

abbrev pub invariant-lines : goal.invariant-lines
invariant-lines l = record {
  left : place_from l.language l.place l.number (statements_left l.cursor) ≡ place_of l.language l.bytes l.number;
  room : l.cursor.line + length l.cursor.rest.now < 2 ^ 64;
}

abbrev pub decreases-lines : goal.decreases-lines
decreases-lines l = length (statements_left l.cursor)
