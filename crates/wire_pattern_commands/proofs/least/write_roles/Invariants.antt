use Rattle.std.proofs.Common.{◌≡◌, ◌++◌, map, drop}
use Rattle.std.specs.List.{flat_map}
use Rattle.wire_pattern.specs.Views.{role_by}
use Rattle.wire_pattern_commands.specs.AtLeast.{least_line}
use Rattle.wire_pattern_commands.proofs.least.write_roles.Given as goal

-- the lines that are written, and those of the roles that are left, are all of them
abbrev pub invariant-loop-role : goal.invariant-loop-role
invariant-loop-role l =
    l.out.items ++ flat_map least_line (map role_by (drop l.role-index l.roles)) ≡ l.fn.out.items ++ flat_map least_line (map role_by l.roles)
