use Rattle.std.proofs.Common.{◌≡◌, ◌++◌, map, drop}
use Rattle.wire_pattern.specs.Views.{step_by}
use Rattle.wire_pattern_waits.specs.Lines.{verbs_in}
use Rattle.wire_pattern_waits.proofs.lines.verbs_of.Given as goal

abbrev pub invariant-loop-step : goal.invariant-loop-step
invariant-loop-step l =
    l.verbs.items ++ verbs_in (map step_by (drop l.step-index l.steps))
    ≡ verbs_in (map step_by l.steps)
