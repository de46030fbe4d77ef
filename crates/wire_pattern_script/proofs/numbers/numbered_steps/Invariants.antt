use Rattle.std.proofs.Common.{◌≡◌, ◌++◌, map, flat_map, drop}
use Rattle.wire_pattern.specs.Views.{step_by}
use Rattle.wire_pattern_script.specs.Numbers.{steps_of}
use Rattle.wire_pattern_script.specs.Drafted.{declared_of}
use Rattle.wire_pattern_script.specs.Drafted.{step_of as draft_step_of}
use Rattle.wire_pattern_script.proofs.numbers.numbered_steps.Given as goal

abbrev pub invariant-loop-step : goal.invariant-loop-step
invariant-loop-step l =
    map step_by l.numbered.items ++ flat_map (steps_of (declared_of l.draft) l.job) (map draft_step_of (drop l.step-index l.steps))
    ≡ flat_map (steps_of (declared_of l.draft) l.job) (map draft_step_of l.steps)
