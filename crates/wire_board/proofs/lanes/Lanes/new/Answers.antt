use Rattle.std.proofs.Common.{length, ap, arith}
use Rattle.std.proofs.lemmas.List.{length-map}
use Rattle.wire_board.specs.Lanes.{new_lane}
use Rattle.wire_board.proofs.Opening.{new_seats, seat_count}
use Rattle.wire_board.proofs.lanes.Lanes.new.Goals as goal

pub lanes_of-requires-clause-seats : goal.lanes_of-requires-clause-seats
lanes_of-requires-clause-seats c = new_seats c.args.board.now c.args.seats.items c.requires.seats

pub returns-clause-count : goal.returns-clause-count
returns-clause-count c =
    let made = ap length c.in_ok-lanes.ensures.lanes in
    let mapped = length-map c.args.seats.items new_lane in
    let count = seat_count c.args.board.now c.args.seats.items c.requires.seats in
    let ok = c.in_ok-lanes.lanes.ok.0 in
    let locked = c.in_ok-lanes-2.ensures in
    omega (arith, made, mapped, count, ok, locked)
