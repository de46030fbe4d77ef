use Rattle.std.proofs.Common.{◌≡◌, map, drop}
use Rattle.wire_pattern.specs.Instances.{steps_lines}
use Rattle.wire_pattern.specs.Views.{step_by}
use Rattle.wire_instances.specs.Search.{past}
use Rattle.wire_instances.proofs.numbers.pass_steps.Given as goal

abbrev pub invariant-loop-number : goal.invariant-loop-number
invariant-loop-number l =
    past l.search (steps_lines l.frame.cast l.caller l.number (map step_by (drop l.number l.steps)))
    ≡ past l.fn.search (steps_lines l.frame.cast l.caller 0 (map step_by l.steps))
