use Rattle.wire_rounds.specs.Rounds.{ArePassesOf}
use Rattle.library_tests.proofs.rounds.steal.Given as goal

abbrev pub invariant-loop : goal.invariant-loop
invariant-loop l = ArePassesOf l.round l.passes.items
