use Rattle.std.proofs.Common.{◌≡◌, ◌++◌, map, drop}
use Rattle.wire_pattern.specs.Views.{step_by}
use Rattle.wire_instances.specs.Views.{cast_by}
use Rattle.wire_pattern_waits.specs.Places.{steps_places}
use Rattle.wire_pattern_waits.proofs.places.add_steps.Given as goal

abbrev pub invariant-loop-index : goal.invariant-loop-index
invariant-loop-index l =
    l.out.items ++ steps_places (cast_by l.caller.cast.now) l.caller.process l.index l.first (map step_by (drop l.index l.steps))
    ≡ l.fn.out.items ++ steps_places (cast_by l.caller.cast.now) l.caller.process 0 1 (map step_by l.steps)
