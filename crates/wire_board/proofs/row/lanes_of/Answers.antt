use Rattle.std.proofs.Common.{Some, map, arith}
use Rattle.std.proofs.lemmas.List.Elements.{All-pop}
use Rattle.wire_board.specs.Lanes.{new_lane}
use Rattle.wire_board.proofs.Opening.{IsNew, lanes_more}
use Rattle.wire_board.proofs.row.lanes_of.Goals as goal

pub seats-preserved : goal.seats-preserved
seats-preserved c =
    let seats = c.seats.seats.items in
    let rest = c.pop.new.self.items in
    let sum = c.seats.invariant.2 in
    let room = c.seats.invariant.3 in
    let pushed = c.push_reserved.ensures.len in
    let kept = c.push_reserved.ensures.capacity in
    let popped = c.in-Some.ensures.len in (
      (All-pop (IsNew c.args.board.now) seats rest (Some c.in-Some.seat) c.in-Some.ensures.items c.seats.invariant.0).0,
      lanes_more seats rest c.in-Some.seat c.seats.lanes.items c.push_reserved.new.self.items c.in_ok-new.field-0 (map new_lane c.args.seats.items) c.in-Some.ensures.items
          c.push_reserved.ensures.items c.in_ok-new.ensures.lane c.seats.invariant.1,
      omega (arith, sum, pushed, popped),
      omega (arith, room, kept),
    )
