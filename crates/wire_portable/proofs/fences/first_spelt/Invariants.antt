use Rattle.std.proofs.Common.{map}
use Rattle.wire_runs.specs.Plan.{event_of}
use Rattle.wire_portable.specs.Fences.{NoneSpelt}
use Rattle.wire_portable.proofs.fences.first_spelt.Given as goal

abbrev pub invariant-loop-other : goal.invariant-loop-other
invariant-loop-other l = NoneSpelt l.plan l.spelling l.number (map event_of l.arrivals) l.other-index
