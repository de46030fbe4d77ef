use Rattle.std.proofs.Common.{◌≡◌, ◌++◌, map, drop}
use Rattle.std.specs.List.{flat_map}
use Rattle.wire_instances.specs.Views.{choice_by}
use Rattle.wire_pattern_commands.specs.LeftOut.{left_in}
use Rattle.wire_pattern_commands.proofs.left_out.all_left.Given as goal

abbrev pub invariant-loop-choice : goal.invariant-loop-choice
invariant-loop-choice l =
    l.left.items ++ flat_map (left_in l.pattern l.roles) (map choice_by (drop l.choice-index l.chosen))
    ≡ flat_map (left_in l.pattern l.roles) (map choice_by l.chosen)
