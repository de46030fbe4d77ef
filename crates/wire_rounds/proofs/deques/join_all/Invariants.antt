use Rattle.wire_rounds.proofs.Joins.{Joining}
use Rattle.wire_rounds.proofs.deques.join_all.Given as goal

abbrev pub invariant-rows : goal.invariant-rows
invariant-rows l = Joining l.initial.passes.items l.passes.items l.from
