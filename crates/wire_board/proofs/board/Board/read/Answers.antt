use Rattle.std.proofs.Common.{ap, sym, ◌∙◌, arith}
use Rattle.wire_board.specs.Cuts.{procs_of}
use Rattle.wire_board.specs.Seats.{BoardIs, SeatIs}
use Rattle.wire_board.proofs.Keeps.{loads}
use Rattle.wire_board.proofs.board.Board.read.Goals as goal

pub load-found-requires : goal.load-found-requires
load-found-requires c =
    let shared = c.self.inside.table.shared in
    let sized = c.self.invariant.0 in
    let procs = ap (λ (b : BoardIs). procs_of b.plan) c.self.view_is in
    let tie = ap (λ (s : SeatIs). s.board) c.seat.view_is ∙ (c.requires.seat ∙ sym c.self.view_is) in (
      ap (λ (b : BoardIs). b.id) tie,
      (let inside = c.requires.proc in let i = c.index.ensures in omega arith),
      loads shared.key shared.table_id.slots c.seat.inside.token.id c.index.result c.seat.inside.token.me,
    )
