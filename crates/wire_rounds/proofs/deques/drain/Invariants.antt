use Rattle.std.proofs.Common.{◌≡◌, ◌-◌, length, vec_capacity}
use Rattle.crossbeam_deque.specs.Handles.{worker_flavor, worker_view}
use Rattle.wire_rounds.proofs.Drains.{Draining}
use Rattle.wire_rounds.proofs.deques.drain.Given as goal

abbrev pub invariant-drains : goal.invariant-drains
invariant-drains l =
    Draining (worker_view l.initial.own) (worker_view l.own) l.initial.left.items l.left.items × (worker_flavor l.own ≡ 0) × (vec_capacity l.left ≡ vec_capacity l.initial.left)

abbrev pub decreases-drains : goal.decreases-drains
decreases-drains l = length (worker_view l.initial.own).dealt - (worker_view l.own).below
