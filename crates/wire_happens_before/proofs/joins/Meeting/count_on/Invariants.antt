use Rattle.std.proofs.Common.{◌-◌, map, length}
use Rattle.wire_runs.specs.Plan.{event_of}
use Rattle.wire_happens_before.specs.Meeting.{IsMeeting}
use Rattle.wire_happens_before.proofs.joins.Meeting.count_on.Given as goal

abbrev pub invariant-met : goal.invariant-met
invariant-met l = IsMeeting l.clocks (map event_of l.arrivals) l.self

abbrev pub decreases-met : goal.decreases-met
decreases-met l = length l.arrivals - l.self.count
