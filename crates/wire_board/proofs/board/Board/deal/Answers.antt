use Rattle.std.proofs.Common.{◌<◌, ap, arith}
use Rattle.std.proofs.lemmas.Grind.{common_steps}
use Rattle.wire_board.specs.Cuts.{procs_of}
use Rattle.wire_board.specs.Seats.{opening_seats}
use Rattle.wire_board.proofs.Dealing.{dealt_more}
use Rattle.wire_board.proofs.board.Board.deal.Goals as goal

pub loop-rank-preserved : goal.loop-rank-preserved
loop-rank-preserved c =
    let board = c.args.self.now in
    let r = c.loop-rank.rank in
    let inside : r < procs_of board.plan = (let t = c.loop-rank-test.true in let n = c.process_count-count.ensures in let p = ap procs_of c.requires.plan in omega arith) in (
      c.in_ok-cut.ensures.first,
      rw c.push_reserved.ensures.items (dealt_more board r (procs_of board.plan) c.loop-rank.seats.items (opening_seats board) c.in_ok-cut.field-0 inside c.loop-rank.invariant.1
          c.in_ok-cut.ensures.seat),
      grind (arith, common_steps),
      grind (arith, common_steps),
    )
