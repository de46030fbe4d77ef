use Rattle.std.proofs.Common.{◌≡◌, ◌-◌, length}
use Rattle.wire_rounds.specs.Rounds.{IsPassOf, ranks_of, worker_of}
use Rattle.wire_rounds.specs.Taken.{taken_by}
use Rattle.wire_sched.proofs.serve.serve_round.Given as goal

abbrev pub invariant-pieces : goal.invariant-pieces
invariant-pieces g l = IsPassOf l.crew.round.now l.pass × (worker_of l.pass ≡ worker_of l.initial.pass)

-- the pieces of the round that the pass hasn't taken
abbrev pub decreases-pieces : goal.decreases-pieces
decreases-pieces g l = ranks_of l.crew.round.now - length (taken_by l.pass)
