use Rattle.std.proofs.Common.{◌-◌}
use Rattle.wire_rounds.specs.Deques.{IsFilled}
use Rattle.wire_rounds.proofs.Turns.{IsTurn, share_below}
use Rattle.wire_rounds.proofs.deques.fill_deque.Given as goal

abbrev pub invariant-turns : goal.invariant-turns
invariant-turns l = IsFilled (share_below l.worker l.workers l.round l.ranks l.next) l.own × IsTurn l.worker l.workers l.ranks l.next

abbrev pub decreases-turns : goal.decreases-turns
decreases-turns l = l.ranks - l.next
