use Rattle.std.proofs.Common.{◌≡◌, ◌≤◌, ◌-◌, ◌++◌, length}
use Rattle.wire_scripts.specs.Planned.{plan_of}
use Rattle.wire_runs.specs.State.{start}
use Rattle.wire_runs.specs.Step.{IsInterleaving}
use Rattle.wire_runs.specs.PlainRun.{plain_from}
use Rattle.wire_runs.specs.Plan.{event_total}
use Rattle.wire_core.specs.Course.{state_of}
use Rattle.wire_core.proofs.running.Core.run_lowest.Given as goal

abbrev pub invariant-steps : goal.invariant-steps
invariant-steps l = record {
  scripts : l.self.scripts ≡ l.initial.self.scripts;
  legal : IsInterleaving (plan_of l.self.scripts) start l.self.history;
  longer : length l.initial.self.history ≤ length l.self.history;
  ahead : l.self.history ++ plain_from (plan_of l.self.scripts) (event_total (plan_of l.self.scripts) - (length l.self.history - length l.initial.self.history)) (state_of l.self)
      ≡ l.initial.self.history ++ plain_from (plan_of l.initial.self.scripts) (event_total (plan_of l.initial.self.scripts)) (state_of l.initial.self);
}

abbrev pub decreases-steps : goal.decreases-steps
decreases-steps l = event_total (plan_of l.self.scripts) - length l.self.history
