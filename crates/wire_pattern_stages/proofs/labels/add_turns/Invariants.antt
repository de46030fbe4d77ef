use Rattle.std.proofs.Common.{◌≡◌, ◌++◌, map, drop}
use Rattle.wire_pattern.specs.Views.{line_by}
use Rattle.wire_pattern_stages.specs.Views.{label_by}
use Rattle.wire_pattern_stages.specs.Lines as spec
use Rattle.wire_pattern_stages.proofs.labels.add_turns.Given as goal

abbrev pub invariant-loop-each : goal.invariant-loop-each
invariant-loop-each l =
    map label_by l.out.items ++ spec.loop_labels l.step (map line_by l.lines) (drop l.each-index l.turns)
    ≡ map label_by l.fn.out.items ++ spec.loop_labels l.step (map line_by l.lines) l.turns
