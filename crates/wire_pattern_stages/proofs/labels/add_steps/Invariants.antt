use Rattle.std.proofs.Common.{◌≡◌, ◌++◌, map, drop}
use Rattle.wire_pattern.specs.Views.{step_by}
use Rattle.wire_instances.specs.Views.{cast_by}
use Rattle.wire_pattern_stages.specs.Views.{label_by}
use Rattle.wire_pattern_stages.specs.Lines as spec
use Rattle.wire_pattern_stages.proofs.labels.add_steps.Given as goal

abbrev pub invariant-loop-index : goal.invariant-loop-index
invariant-loop-index l =
    map label_by l.out.items ++ spec.steps_labels (cast_by l.caller.cast.now) l.caller.process l.index (map step_by (drop l.index l.steps))
    ≡ map label_by l.fn.out.items ++ spec.steps_labels (cast_by l.caller.cast.now) l.caller.process 0 (map step_by l.steps)
