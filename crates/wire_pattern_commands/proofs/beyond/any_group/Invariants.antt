use Rattle.std.proofs.Common.{◌≡◌, map, drop}
use Rattle.wire_pattern.specs.Views.{role_by}
use Rattle.wire_pattern_commands.specs.Beyond as spec
use Rattle.wire_pattern_commands.proofs.beyond.any_group.Given as goal

abbrev pub invariant-loop-role : goal.invariant-loop-role
invariant-loop-role l = spec.has_groups (map role_by (drop l.role-index l.roles)) ≡ spec.has_groups (map role_by l.roles)
