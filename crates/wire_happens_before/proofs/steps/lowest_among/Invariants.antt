use Rattle.std.proofs.Common.{◌++◌, List, map, take}
use Rattle.std.specs.Prelude.{option_map}
use Rattle.wire_runs.specs.Plan.{Plan, Event, event_of}
use Rattle.wire_happens_before.specs.Clocks.{AreMarks}
use Rattle.wire_happens_before.specs.Chain.{Lowest}
use Rattle.wire_happens_before.proofs.steps.lowest_among.Given as goal

abbrev pub invariant-loop-z : goal.invariant-loop-z
invariant-loop-z l = (plan : Plan) (places : List Event) → AreMarks plan l.marks → Lowest plan (event_of l.x) places (option_map event_of l.fn.first) →
    Lowest plan (event_of l.x) (places ++ map event_of (take l.z-index l.events)) (option_map event_of l.lowest)
