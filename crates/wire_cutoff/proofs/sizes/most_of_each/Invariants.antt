use Rattle.std.proofs.Common.{◌≡◌, ◌++◌, map, drop}
use Rattle.wire_pattern.specs.Views.{role_by}
use Rattle.wire_cutoff.specs.Selections.{most_sizes}
use Rattle.wire_cutoff.proofs.sizes.most_of_each.Given as goal

abbrev pub invariant-loop-role : goal.invariant-loop-role
invariant-loop-role l = l.sizes.items ++ most_sizes (map role_by (drop l.role-index l.roles)) ≡ most_sizes (map role_by l.roles)
