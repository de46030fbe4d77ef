use Rattle.std.proofs.Common.{◌≡◌, map, drop, false}
use Rattle.wire_pattern_script.specs.Faults.{commits_fault}
use Rattle.wire_pattern.specs.Views.{step_by}
use Rattle.wire_pattern_script.proofs.third_pass.commits_fault.Given as goal

abbrev pub invariant-loop-step : goal.invariant-loop-step
invariant-loop-step l = record {
  same : commits_fault false (map step_by l.steps) ≡ commits_fault l.waits (map step_by (drop l.step-index l.steps));
}
