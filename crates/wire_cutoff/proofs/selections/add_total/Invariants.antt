use Rattle.std.proofs.Common.{◌≡◌, ◌++◌, map, drop}
use Rattle.wire_types.specs.Texts.{lists_of}
use Rattle.wire_cutoff.specs.Selections as spec
use Rattle.wire_cutoff.specs.Views.{selection_by}
use Rattle.wire_cutoff.proofs.selections.add_total.Given as goal

abbrev pub invariant-loop-sizes : goal.invariant-loop-sizes
invariant-loop-sizes l =
    map selection_by l.all.items ++ spec.of_total l.pattern (lists_of (drop l.sizes-index l.lists)) l.total
    ≡ map selection_by l.fn.all.items ++ spec.of_total l.pattern (lists_of l.lists) l.total
