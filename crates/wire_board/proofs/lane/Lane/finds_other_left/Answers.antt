use Rattle.std.proofs.Common.{◌∙◌, sym, subst}
use Rattle.wire_runs.specs.Plan.{Event, event_of}
use Rattle.wire_scripts.specs.Scripts.{Scripts}
use Rattle.wire_scripts.specs.Planned.{plan_of}
use Rattle.wire_board.specs.Lanes.{WaitsForMore}
use Rattle.wire_board.proofs.Looking.{plan_told, plan_still, next_still}
use Rattle.wire_board.proofs.Leaving.{all_implied}
use Rattle.wire_board.proofs.lane.Lane.finds_other_left.Goals as goal

pub returns-in-Some-clause-found : goal.returns-in-Some-clause-found
returns-in-Some-clause-found c =
    let lane = c.self.inside in
    let old = c.args.self.now in
    let new = c.finds.new.self in
    let end = event_of c.in-Some.end in
    let of = plan_told lane.board.now lane.settled.now (record { seat = lane.seat; trail = lane.trail.items }) old _ c.self.invariant.0 c.self.view_is in
    let plans = c.plan.ensures.same ∙ sym (plan_still old new lane.settled.now c.finds.ensures.read of) in
    let next = next_still old new (event_of c.args.event) c.finds.ensures.read c.requires.event.0 in
    let more = subst (λ (t : Scripts × Event). WaitsForMore (plan_of t.0) t.1 end) (λ i. (plans i, next i)) c.in-Some.ensures in
    λ found. all_implied (plan_of new.seat.board.plan) new.seat end more (sym c.finds.ensures.found ∙ found)
