use Rattle.std.proofs.Common.{◌-◌, length}
use Rattle.wire_runs.specs.Plan.{event_total}
use Rattle.wire_core.specs.Course.{plan_in}
use Rattle.wire_core.proofs.Limits.{Goes}
use Rattle.wire_core.proofs.running.Core.run_within.Given as goal

abbrev pub invariant-steps : goal.invariant-steps
invariant-steps l = Goes l.limits l.initial.self l.self

abbrev pub decreases-steps : goal.decreases-steps
decreases-steps l = event_total (plan_in l.self) - length l.self.history
