use Rattle.std.proofs.Common.{◌≡◌}
use Rattle.library_tests.proofs.boards.comes.Given as goal

abbrev pub invariant-turns : goal.invariant-turns
invariant-turns l = l.seat.board ≡ l.board
