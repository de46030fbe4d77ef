use Rattle.std.proofs.Common.{◌≡◌, ◌++◌, map, drop}
use Rattle.wire_pattern.specs.Views.{step_by}
use Rattle.wire_instances.specs.Views.{turn_by}
use Rattle.wire_cutoff_laws.specs.Choices as spec
use Rattle.wire_cutoff.proofs.choices.add_steps.Given as goal

abbrev pub invariant-loop-number : goal.invariant-loop-number
invariant-loop-number l =
    map turn_by l.turns.items ++ spec.steps_turns l.roles l.caller l.number (map step_by (drop l.number l.steps))
    ≡ map turn_by l.fn.turns.items ++ spec.steps_turns l.roles l.caller 0 (map step_by l.steps)
