use Rattle.std.proofs.Common.{◌≡◌, ◌≤◌, None}
use Rattle.wire_scripts.specs.Planned.{plan_of}
use Rattle.wire_runs.specs.PlainRun.{lowest}
use Rattle.wire_core.specs.Course.{state_of}
use Rattle.wire_core.proofs.running.Core.next_lowest.Given as goal

abbrev pub invariant-loop-number : goal.invariant-loop-number
invariant-loop-number l = record {
  same : l.self ≡ l.fn.self;
  within : l.number ≤ l.number-end;
  none : lowest (plan_of l.fn.self.scripts) (state_of l.fn.self) l.number ≡ None;
}
