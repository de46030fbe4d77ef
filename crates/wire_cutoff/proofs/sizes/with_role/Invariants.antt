use Rattle.std.proofs.Common.{◌≡◌, ◌++◌, drop}
use Rattle.wire_types.specs.Texts.{lists_of}
use Rattle.wire_pattern.specs.Views.{role_by}
use Rattle.wire_cutoff_laws.specs.Sizes as spec
use Rattle.wire_cutoff.proofs.sizes.with_role.Given as goal

abbrev pub invariant-loop-sizes : goal.invariant-loop-sizes
invariant-loop-sizes l =
    lists_of l.longer.items ++ spec.with_role (lists_of (drop l.sizes-index l.lists)) (role_by l.role)
    ≡ spec.with_role (lists_of l.lists) (role_by l.role)
