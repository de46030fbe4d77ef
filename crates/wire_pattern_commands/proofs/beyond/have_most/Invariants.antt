use Rattle.std.proofs.Common.{◌≡◌, map, drop}
use Rattle.std.specs.List.{list_all}
use Rattle.wire_pattern.specs.Views.{role_by}
use Rattle.wire_pattern_commands.specs.Beyond.{has_most}
use Rattle.wire_pattern_commands.proofs.beyond.have_most.Given as goal

abbrev pub invariant-loop-role : goal.invariant-loop-role
invariant-loop-role l = list_all (has_most l.size) (map role_by (drop l.role-index l.roles)) ≡ list_all (has_most l.size) (map role_by l.roles)
