use Rattle.std.proofs.Common.{IfSome, sym, subst}
use Rattle.wire_scripts.specs.Planned.{plan_of}
use Rattle.wire_plan.specs.Index.{source_list}
use Rattle.wire_board.specs.Lanes.{LaneIs, AreLeft}
use Rattle.wire_board.proofs.Looking.{lane_plan, first_missing}
use Rattle.wire_board.proofs.lane.Lane.missing.Goals as goal

pub returns-in-Some : goal.returns-in-Some
returns-in-Some c =
    let lane = c.self.inside in
    let now = c.args.self.now in
    let settled = lane.settled.now in
    let here : LaneIs = record { seat = lane.seat; trail = lane.trail.items } in
    let left = c.in-Some.left in
    let xs = source_list left.previous left.awaited left.arrivals.now in
    let told = subst (λ o. IfSome o (λ s. AreLeft (plan_of settled) lane.seat (source_list s.previous s.awaited s.arrivals.now))) c.in-Some.is c.self.invariant.1 in
    first_missing (plan_of now.seat.board.plan) now.seat xs c.first_source.result c.first_source.ensures
    (subst (λ (l : LaneIs). AreLeft (plan_of l.seat.board.plan) l.seat xs) c.self.view_is
    (subst (λ p. AreLeft (plan_of p) lane.seat xs) (sym (lane_plan lane.board.now settled here _ c.self.invariant.0)) told))
