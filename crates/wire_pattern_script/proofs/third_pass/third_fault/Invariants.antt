use Rattle.std.proofs.Common.{◌≡◌, map, drop}
use Rattle.wire_pattern_script.specs.Faults.{third_fault}
use Rattle.wire_pattern.specs.Views.{role_by}
use Rattle.wire_pattern_script.proofs.third_pass.third_fault.Given as goal

abbrev pub invariant-loop-role : goal.invariant-loop-role
invariant-loop-role l = record {
  same : third_fault (map role_by l.roles) ≡ third_fault (map role_by (drop l.role-index l.roles));
}
