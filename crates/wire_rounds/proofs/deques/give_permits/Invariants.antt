use Rattle.wire_rounds.specs.Deques.{Cutting}
use Rattle.wire_rounds.proofs.deques.give_permits.Given as goal

abbrev pub invariant-cuts : goal.invariant-cuts
invariant-cuts l = Cutting l.initial.passes.items l.passes.items l.to
