use Rattle.std.proofs.Common.{◌≡◌, ◌++◌, map, drop}
use Rattle.wire_pattern.specs.Views.{role_by}
use Rattle.wire_pattern_later.specs.Later.{sizes_with}
use Rattle.wire_pattern_later.proofs.later.sizes_with.Given as goal

abbrev pub invariant-loop-role : goal.invariant-loop-role
invariant-loop-role l = l.sizes.items ++ sizes_with l.ranks (map role_by (drop l.role-index l.roles)) ≡ sizes_with l.ranks (map role_by l.roles)
