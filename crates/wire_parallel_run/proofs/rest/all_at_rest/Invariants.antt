use Rattle.std.proofs.Common.{ℕ, ◌<◌}
use Rattle.wire_parallel_run.specs.Trails.{trail_of, IsAtRest}
use Rattle.wire_parallel_run.proofs.rest.all_at_rest.Given as goal

abbrev pub invariant-loop-number : goal.invariant-loop-number
invariant-loop-number l = (p : ℕ) → p < l.number → IsAtRest l.settled l.words p (trail_of l.trails p)
