use Rattle.std.proofs.Common.{length}
use Rattle.wire_rounds.proofs.Joins.{Rowing}
use Rattle.wire_rounds.proofs.deques.join_permits.Given as goal

abbrev pub invariant-joins : goal.invariant-joins
invariant-joins l = Rowing l.initial.passes.items l.passes.items l.initial.permits.items l.permits.items

abbrev pub decreases-joins : goal.decreases-joins
decreases-joins l = length l.permits.items
