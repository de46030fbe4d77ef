use Rattle.std.proofs.Common.{arith}
use Rattle.wire_rounds.proofs.Deals.{takes, finds_few}
use Rattle.wire_rounds.proofs.deques.steal_from.Goals as goal

pub steal_as-requires-clause-takes : goal.steal_as-requires-clause-takes
steal_as-requires-clause-takes c = takes _ 1 _ c.requires.part

pub steal_as-requires-clause-empty : goal.steal_as-requires-clause-empty
steal_as-requires-clause-empty c = finds_few _ _ _ (omega (arith, c.requires.fifo))
