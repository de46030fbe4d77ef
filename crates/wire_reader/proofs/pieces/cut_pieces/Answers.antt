use Rattle.std.proofs.Common.{◌≡◌, ◌+◌, length, arith}
use Rattle.std.proofs.lemmas.List.{length_push}
use Rattle.std.proofs.lemmas.List.Elements.{All-push}
use Rattle.wire_reader.specs.Pieces.{HasRoom}
use Rattle.wire_reader.proofs.Cutting.{one_cut}
use Rattle.wire_reader.proofs.pieces.cut_pieces.Goals as goal

pub pieces-preserved : goal.pieces-preserved
pieces-preserved c =
    let more : length c.push.new.self.items ≡ length c.pieces.pieces.items + 1 = rw c.in_ok-push.ensures.items (length_push c.pieces.pieces.items c.cut.result) in
    let was = c.pieces.invariant.shorter in
    let cut = c.cut.ensures.shorter in
    record {
      so_far = one_cut _ c.pieces.pieces.items c.push.new.self.items c.pieces.left c.cut.result c.cut.new.self c.pieces.invariant.so_far c.in_ok-push.ensures.items c.cut.ensures.left;
      each = rw c.in_ok-push.ensures.items (All-push HasRoom c.pieces.pieces.items c.cut.result c.pieces.invariant.each c.cut.ensures.piece);
      room = c.cut.ensures.room;
      shorter = omega (arith, more, was, cut);
    }

pub returns-then-len-eq-PIECES_AT_ONCE-clause-left : goal.returns-then-len-eq-PIECES_AT_ONCE-clause-left
returns-then-len-eq-PIECES_AT_ONCE-clause-left c = c.pieces.invariant.so_far

pub returns-then-len-eq-PIECES_AT_ONCE-clause-room : goal.returns-then-len-eq-PIECES_AT_ONCE-clause-room
returns-then-len-eq-PIECES_AT_ONCE-clause-room c = c.pieces.invariant.room
