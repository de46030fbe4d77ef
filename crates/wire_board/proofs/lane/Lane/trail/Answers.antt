use Rattle.std.proofs.Common.{subst}
use Rattle.wire_board.specs.Lanes.{IsTrail}
use Rattle.wire_board.proofs.Trails.{trail_kept}
use Rattle.wire_board.proofs.lane.Lane.trail.Goals as goal

pub returns-clause-trail : goal.returns-clause-trail
returns-clause-trail c =
    let lane = c.self.inside in
    subst IsTrail c.self.view_is (trail_kept (record { seat = lane.seat; trail = lane.trail.items }) lane.board.now lane.settled.now _ c.self.invariant.0)
