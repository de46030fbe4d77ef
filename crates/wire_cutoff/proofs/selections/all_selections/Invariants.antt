use Rattle.std.proofs.Common.{◌≡◌, ◌++◌, ◌-◌, map}
use Rattle.std.specs.Prelude.{flat_map}
use Rattle.wire_cutoff.specs.Selections as spec
use Rattle.wire_cutoff.specs.Views.{selection_by}
use Rattle.wire_cutoff_laws.specs.Sizes.{all_sizes, numbers_from}
use Rattle.wire_cutoff.proofs.selections.all_selections.Given as goal

abbrev pub invariant-loop-total : goal.invariant-loop-total
invariant-loop-total l =
    map selection_by l.all.items ++ flat_map (spec.of_total l.pattern (all_sizes l.pattern.roles)) (numbers_from l.total (l.end - l.total))
    ≡ spec.selections l.pattern
