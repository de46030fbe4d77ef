use Rattle.std.proofs.Common.{◌<◌, ◌∙◌, IfSome, sym, subst}
use Rattle.wire_runs.specs.Plan.{event_of, event_count}
use Rattle.wire_scripts.specs.Planned.{plan_of}
use Rattle.wire_plan.specs.Index.{AreSources, source_list}
use Rattle.wire_board.specs.Lanes.{LaneIs, AreLeft}
use Rattle.wire_board.proofs.Looking.{plan_told, lane_plan, left_first}
use Rattle.wire_board.proofs.Fronting.{left_same}
use Rattle.wire_board.proofs.lane.Lane.sources_left.Goals as goal

pub returns-in-Some : goal.returns-in-Some
returns-in-Some c =
    let lane = c.self.inside in
    let settled = lane.settled.now in
    let here : LaneIs = record { seat = lane.seat; trail = lane.trail.items } in
    let left = c.in-Some.left in
    let xs = source_list left.previous left.awaited left.arrivals.now in
    let told = subst (λ o. IfSome o (λ s. AreLeft (plan_of settled) lane.seat (source_list s.previous s.awaited s.arrivals.now))) c.in-Some.is c.self.invariant.1 in
    subst (λ (l : LaneIs). AreLeft (plan_of l.seat.board.plan) l.seat xs) c.self.view_is
    (subst (λ p. AreLeft (plan_of p) lane.seat xs) (sym (lane_plan lane.board.now settled here _ c.self.invariant.0)) told)

pub returns-in-None : goal.returns-in-None
returns-in-None c =
    let lane = c.self.inside in
    let now = c.args.self.now in
    let of = plan_told lane.board.now lane.settled.now (record { seat = lane.seat; trail = lane.trail.items }) now _ c.self.invariant.0 c.self.view_is in
    let all = c.sources.result in
    let xs = source_list all.previous all.awaited all.arrivals.now in
    left_same (plan_of now.seat.board.plan) now.seat xs _ c.next_member_first.ensures
    (left_first (plan_of now.seat.board.plan) now.seat (event_of c.args.event) xs c.requires.event.0
    (subst (λ p. AreSources (plan_of p) (event_of c.args.event) xs) (c.plan.ensures.same ∙ sym of) c.sources.ensures.sources))

pub sources-requires : goal.sources-requires
sources-requires c =
    let lane = c.self.inside in
    let now = c.args.self.now in
    let of = plan_told lane.board.now lane.settled.now (record { seat = lane.seat; trail = lane.trail.items }) now _ c.self.invariant.0 c.self.view_is in
    subst (λ p. c.args.event.at < event_count (plan_of p) c.args.event.proc.number) (of ∙ sym c.plan.ensures.same) c.requires.event.1
