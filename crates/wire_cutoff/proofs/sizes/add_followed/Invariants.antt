use Rattle.std.proofs.Common.{◌+◌, ◌-◌, ◌≡◌, ◌++◌, ◌<◌, ◌^◌, suc}
use Rattle.wire_types.specs.Texts.{lists_of}
use Rattle.wire_cutoff_laws.specs.Sizes as spec
use Rattle.wire_cutoff.proofs.sizes.add_followed.Given as goal

abbrev pub invariant-sizes : goal.invariant-sizes
invariant-sizes l =
    (l.most < 2 ^ 32) × (lists_of l.lists.items ++ spec.followed l.sizes (spec.numbers_from l.size (suc l.most - l.size))
    ≡ lists_of l.initial.lists.items ++ spec.followed l.sizes (spec.numbers_from l.initial.size (suc l.most - l.initial.size)))

abbrev pub decreases-sizes : goal.decreases-sizes
decreases-sizes l = l.most + 1 - l.size
