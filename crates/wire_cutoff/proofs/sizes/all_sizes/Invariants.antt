use Rattle.std.proofs.Common.{◌≡◌, drop, map}
use Rattle.wire_types.specs.Texts.{lists_of}
use Rattle.wire_pattern.specs.Views.{role_by}
use Rattle.wire_cutoff_laws.specs.Sizes as spec
use Rattle.wire_cutoff.proofs.sizes.all_sizes.Given as goal

abbrev pub invariant-loop-role : goal.invariant-loop-role
invariant-loop-role l =
    spec.with_roles (lists_of l.lists.items) (map role_by (drop l.role-index l.roles)) ≡ spec.all_sizes (map role_by l.roles)
