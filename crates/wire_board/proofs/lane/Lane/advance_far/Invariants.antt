use Rattle.std.proofs.Common.{◌-◌, length}
use Rattle.wire_runs.specs.Plan.{event_count}
use Rattle.wire_scripts.specs.Planned.{plan_of}
use Rattle.wire_board.specs.Lanes.{SameLane}
use Rattle.wire_board.proofs.Trails.{IsLonger}
use Rattle.wire_board.proofs.lane.Lane.advance_far.Given as goal

abbrev pub invariant-events : goal.invariant-events
invariant-events l = SameLane l.fn.self l.self × IsLonger l.fn.self.trail l.self.trail

abbrev pub decreases-events : goal.decreases-events
decreases-events l = event_count (plan_of l.self.seat.board.plan) l.self.seat.rank - length l.self.trail
