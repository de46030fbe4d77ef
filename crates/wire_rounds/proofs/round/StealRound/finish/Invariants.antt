use Rattle.std.proofs.Common.{◌≡◌, vec_capacity}
use Rattle.wire_rounds.proofs.Finishes.{Finishing}
use Rattle.wire_rounds.proofs.round.StealRound.finish.Given as goal

abbrev pub invariant-deques : goal.invariant-deques
invariant-deques l =
    Finishing l.fn.self l.fn.passes.items l.passes.items l.left.items l.i × (vec_capacity l.left ≡ vec_capacity l.initial.left)
