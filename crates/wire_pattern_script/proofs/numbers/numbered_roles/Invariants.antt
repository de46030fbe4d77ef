use Rattle.std.proofs.Common.{◌≡◌, map, take}
use Rattle.wire_pattern_script.specs.Numbers.{role_of}
use Rattle.wire_pattern.specs.Views.{role_by}
use Rattle.wire_pattern_script.specs.Drafted.{role_of as draft_role_of}
use Rattle.wire_pattern_script.specs.Drafted.{declared_of}
use Rattle.wire_pattern_script.proofs.numbers.numbered_roles.Given as goal

abbrev pub invariant-loop-role : goal.invariant-loop-role
invariant-loop-role l = record {
  so_far : map role_by l.numbered.items ≡ map (role_of (declared_of l.draft)) (map draft_role_of (take l.role-index l.roles));
}
