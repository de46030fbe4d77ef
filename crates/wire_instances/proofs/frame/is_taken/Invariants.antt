use Rattle.std.proofs.Common.{◌≡◌, map, drop}
use Rattle.wire_pattern.specs.Instances as spec
use Rattle.wire_instances.specs.Views.{turn_by, choice_by}
use Rattle.wire_instances.proofs.frame.is_taken.Given as goal

abbrev pub invariant-loop-choice : goal.invariant-loop-choice
invariant-loop-choice l =
    spec.is_taken (map choice_by (drop l.choice-index l.chosen)) (turn_by l.turn) ≡ spec.is_taken (map choice_by l.chosen) (turn_by l.turn)
