use Rattle.std.proofs.Common.{sym, subst}
use Rattle.wire_scripts.specs.Planned.{plan_of}
use Rattle.wire_plan.specs.Index.{source_list}
use Rattle.wire_board.specs.Lanes.{LaneIs, AreLeft}
use Rattle.wire_board.proofs.Looking.{lane_plan}
use Rattle.wire_board.proofs.lane.Lane.keep_left.Goals as goal

pub invariant_of-self : goal.invariant_of-self
invariant_of-self c =
    let lane = c.self.inside in
    let here : LaneIs = record { seat = lane.seat; trail = lane.trail.items } in
    let left = c.args.left in
    let xs = source_list left.previous left.awaited left.arrivals.now in
    let told = subst (λ (l : LaneIs). AreLeft (plan_of l.seat.board.plan) l.seat xs) (sym c.self.view_is) c.requires in
    (c.self.invariant.0, subst (λ p. AreLeft (plan_of p) lane.seat xs) (lane_plan lane.board.now lane.settled.now here _ c.self.invariant.0) told)
