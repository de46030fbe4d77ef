use Rattle.wire_rounds.proofs.Deals.{takes, finds}
use Rattle.wire_rounds.proofs.deques.take_front.Goals as goal

pub pop_as-requires-clause-fifo : goal.pop_as-requires-clause-fifo
pop_as-requires-clause-fifo c = λ _. takes _ 1 _ c.requires.part

pub pop_as-requires-clause-empty : goal.pop_as-requires-clause-empty
pop_as-requires-clause-empty c = finds _ _
