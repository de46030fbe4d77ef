use Rattle.std.proofs.Common.{◌++◌, map, drop}
use Rattle.wire_pattern.specs.Instances.{steps_said}
use Rattle.wire_pattern.specs.Views.{step_by}
use Rattle.wire_instances.specs.Written.{AgreeOn, calls_text}
use Rattle.wire_instances.proofs.text.write_steps.Given as goal

abbrev pub invariant-loop-number : goal.invariant-loop-number
invariant-loop-number l =
    AgreeOn l.excerpt.wanted (l.out.items ++ calls_text (steps_said l.excerpt.frame.pattern l.excerpt.frame.cast l.caller l.number
    (map step_by (drop l.number l.steps))))
    (l.fn.out.items ++ calls_text (steps_said l.excerpt.frame.pattern l.excerpt.frame.cast l.caller 0 (map step_by l.steps)))
