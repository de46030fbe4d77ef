use Rattle.std.proofs.Common.{arith}
use Rattle.wire_rounds.proofs.Bounds.{takes_are_bounded}
use Rattle.wire_sched.proofs.serve.serve_round.Goals as goal

pub pieces-smaller : goal.pieces-smaller
pieces-smaller g c =
    let most = takes_are_bounded c.args.crew.now.round.now c.next_piece.new.pass c.next_piece.ensures.kept.0 in
    let more = c.in-Some.ensures.more in
    omega (arith, most, more)
