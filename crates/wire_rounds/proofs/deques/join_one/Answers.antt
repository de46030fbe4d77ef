use Rattle.wire_rounds.proofs.Deals.{merges}
use Rattle.wire_rounds.proofs.deques.join_one.Goals as goal

pub absorb-requires-clause-rule : goal.absorb-requires-clause-rule
absorb-requires-clause-rule c = merges _ _ _ _ c.requires.part
