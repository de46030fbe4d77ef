use Rattle.std.proofs.Common.{◌≡◌, map, drop}
use Rattle.wire_pattern_script.specs.Faults.{scripts_fault}
use Rattle.wire_pattern.specs.Views.{role_by}
use Rattle.wire_pattern_script.proofs.second_pass.second_fault.Given as goal

abbrev pub invariant-loop-role : goal.invariant-loop-role
invariant-loop-role l = record {
  same : scripts_fault l.jobs (map role_by l.roles) 0 (map role_by l.roles) ≡ scripts_fault l.jobs (map role_by l.roles) l.caller (map role_by (drop l.role-index l.roles));
  at : l.caller ≡ l.role-index;
}
