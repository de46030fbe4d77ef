use Rattle.std.proofs.Common.{◌≡◌, map, drop}
use Rattle.wire_pattern.specs.Views.{role_by}
use Rattle.wire_pattern_commands.specs.Beyond.{smallest}
use Rattle.wire_pattern_commands.proofs.beyond.smallest_size.Given as goal

abbrev pub invariant-loop-role : goal.invariant-loop-role
invariant-loop-role l = smallest l.size (map role_by (drop l.role-index l.roles)) ≡ smallest 0 (map role_by l.roles)
