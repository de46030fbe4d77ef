use Rattle.std.proofs.Common.{◌≡◌, ◌++◌, map, drop}
use Rattle.wire_pattern.specs.Views.{line_by}
use Rattle.wire_pattern_stages.specs.Views.{label_by}
use Rattle.wire_pattern_stages.specs.Lines as spec
use Rattle.wire_pattern_stages.proofs.labels.add_turn.Given as goal

abbrev pub invariant-loop-number : goal.invariant-loop-number
invariant-loop-number l =
    map label_by l.out.items ++ spec.turn_labels l.step l.number l.each (map line_by (drop l.number l.lines))
    ≡ map label_by l.fn.out.items ++ spec.turn_labels l.step 0 l.each (map line_by l.lines)
