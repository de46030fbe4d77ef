use Rattle.std.proofs.Common.{◌-◌, ℕ, length}
use Rattle.std.specs.Prelude.{replicate}
use Rattle.wire_runs.specs.Plan.{event_total}
use Rattle.wire_core.specs.Course.{plan_in}
use Rattle.wire_core.specs.Following.{Follows}
use Rattle.wire_locked.proofs.advance.advance_far.Given as goal

abbrev pub invariant-steps : goal.invariant-steps
invariant-steps l = (n : ℕ) × Follows l.initial.core (replicate n l.proc.number) l.core

abbrev pub decreases-steps : goal.decreases-steps
decreases-steps l = event_total (plan_in l.core) - length l.core.history
