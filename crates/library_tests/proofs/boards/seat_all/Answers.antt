use Rattle.std.proofs.lemmas.Result.{IfOk-weaker}
use Rattle.wire_board.proofs.Opening.{new_seats}
use Rattle.library_tests.proofs.boards.seat_all.Goals as goal

pub returns-clause-seats : goal.returns-clause-seats
returns-clause-seats c = IfOk-weaker c.new.result _ _ (λ made e k d lt. (new_seats made.0 made.1.items e k d lt).0) c.new.ensures.seats
