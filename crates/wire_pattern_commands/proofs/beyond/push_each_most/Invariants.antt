use Rattle.std.proofs.Common.{◌≡◌, ◌++◌, true, map, drop}
use Rattle.wire_pattern.specs.Views.{role_by}
use Rattle.wire_pattern_commands.specs.Beyond.{each_most}
use Rattle.wire_pattern_commands.proofs.beyond.push_each_most.Given as goal

abbrev pub invariant-loop-role : goal.invariant-loop-role
invariant-loop-role l =
    l.out.items ++ each_most l.first (map role_by (drop l.role-index l.roles)) ≡ l.fn.out.items ++ each_most true (map role_by l.roles)
