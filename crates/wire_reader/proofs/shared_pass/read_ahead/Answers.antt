use Rattle.wire_reader.proofs.shared_pass.read_ahead.Goals as goal

pub returns : goal.returns
returns g c = record {
  pieces = c.in_ok-pieces.pieces.items;
  read = rw c.deref.ensures.value at c.in_ok-rows.ensures;
  together = c.in_ok-pieces.ensures.left;
  room = c.in_ok-pieces.ensures.room;
  shorter = c.in_ok-pieces.ensures.shorter;
}
