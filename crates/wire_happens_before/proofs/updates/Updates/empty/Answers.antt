use Rattle.wire_happens_before.proofs.Holding.{none_held}
use Rattle.wire_happens_before.proofs.updates.Updates.empty.Goals as goal

pub invariant_of-result : goal.invariant_of-result
invariant_of-result c = none_held c.empty.result c.empty-2.result c.empty.ensures
