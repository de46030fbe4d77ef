use Rattle.std.proofs.Common.{◌≡◌, ◌≤◌, ℕ}
use Rattle.wire_runs.specs.Sight.{delivered}
use Rattle.wire_core.specs.Course.{plan_in, state_of}
use Rattle.wire_core.proofs.running.Core.last_between.Given as goal

abbrev pub invariant-events : goal.invariant-events
invariant-events l = record {
  from : l.from ≤ l.at;
  to : l.at ≤ l.to;
  none : (key : ℕ) → delivered (plan_in l.self) (state_of l.self).done l.owner.number l.node key l.to ≡ delivered (plan_in l.self) (state_of l.self).done l.owner.number l.node key l.at;
}

abbrev pub decreases-events : goal.decreases-events
decreases-events l = l.at
