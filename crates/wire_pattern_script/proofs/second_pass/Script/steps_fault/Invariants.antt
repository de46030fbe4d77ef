use Rattle.std.proofs.Common.{◌≡◌, map, drop}
use Rattle.wire_pattern_script.specs.Faults.{steps_fault}
use Rattle.wire_pattern.specs.Views.{role_by, step_by}
use Rattle.wire_pattern_script.proofs.second_pass.Script.steps_fault.Given as goal

abbrev pub invariant-loop-index : goal.invariant-loop-index
invariant-loop-index l = record {
  same : steps_fault l.self.jobs (map role_by l.self.roles.now) l.self.caller (map step_by l.steps) ≡ steps_fault l.self.jobs (map role_by l.self.roles.now) l.self.caller (map step_by (drop l.index l.steps));
}
