use Rattle.std.proofs.Common.{◌≡◌, map, drop}
use Rattle.wire_pattern_script.specs.Faults.{first_fault, turn_fault}
use Rattle.wire_pattern.specs.Views.{role_by, line_by, turns_by}
use Rattle.wire_pattern_script.proofs.second_pass.Script.lines_fault.Given as goal

abbrev pub invariant-loop-line : goal.invariant-loop-line
invariant-loop-line l = record {
  same : first_fault (turn_fault l.self.jobs (map role_by l.self.roles.now) l.self.caller l.role (turns_by l.turns)) (map line_by l.lines) ≡ first_fault (turn_fault l.self.jobs (map role_by l.self.roles.now) l.self.caller l.role (turns_by l.turns)) (map line_by (drop l.line-index l.lines));
}
