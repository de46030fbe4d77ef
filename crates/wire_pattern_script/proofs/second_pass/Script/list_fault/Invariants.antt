use Rattle.std.proofs.Common.{◌≡◌, map, drop}
use Rattle.wire_pattern_script.specs.Faults.{list_fault}
use Rattle.wire_pattern.specs.Views.{role_by, step_by}
use Rattle.wire_pattern_script.proofs.second_pass.Script.list_fault.Given as goal

abbrev pub invariant-loop-step : goal.invariant-loop-step
invariant-loop-step l = record {
  same : list_fault (map role_by l.self.roles.now) l.number (map step_by l.steps) ≡ list_fault (map role_by l.self.roles.now) l.number (map step_by (drop l.step-index l.steps));
}
