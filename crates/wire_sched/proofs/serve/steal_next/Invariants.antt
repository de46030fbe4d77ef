use Rattle.std.proofs.Common.{◌≡◌, ◌+◌, ◌*◌, ◌-◌}
use Rattle.wire_rounds.specs.Rounds.{IsPassOf, worker_of, workers_of}
use Rattle.wire_rounds.specs.Taken.{TookNoMore}
use Rattle.wire_sched.proofs.serve.steal_next.Given as goal

abbrev pub invariant-deques : goal.invariant-deques
invariant-deques l = IsPassOf l.round l.pass × (worker_of l.pass ≡ worker_of l.initial.pass) × TookNoMore l.initial.pass l.pass

abbrev pub decreases-deques : goal.decreases-deques
decreases-deques l = 1001 * (workers_of l.round - l.victim.deque) + l.victim.tries
