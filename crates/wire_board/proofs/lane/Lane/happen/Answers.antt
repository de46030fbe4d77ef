use Rattle.std.proofs.Common.{◌∙◌, ap, sym, subst}
use Rattle.std.specs.Prelude.{◌≢◌}
use Rattle.wire_scripts.specs.Planned.{plan_of}
use Rattle.wire_fates.specs.declared.Fate.TheVariants.{Waits}
use Rattle.wire_fates.specs.Fates.{IsFateOf}
use Rattle.wire_board.specs.Seats.{BoardIs, next_of}
use Rattle.wire_board.specs.Lanes.{LaneIs, IsLane}
use Rattle.wire_board.proofs.Trails.{kept_stepping}
use Rattle.wire_board.proofs.lane.Lane.happen.Goals as goal

pub invariant_of-self : goal.invariant_of-self
invariant_of-self c =
    let lane = c.self.inside in
    let kept = c.self.invariant.0 in
    let here = subst (λ (l : LaneIs). IsFateOf (plan_of l.seat.board.plan) (next_of l.seat) c.args.fate × (c.args.fate ≢ Waits)) (sym c.self.view_is) c.requires.fate in
    let next = subst (λ p. IsFateOf (plan_of p) (next_of lane.seat) c.args.fate × (c.args.fate ≢ Waits)) (ap (λ (b : BoardIs). b.plan) kept.board_is ∙ kept.plan_is) here in (
      subst (IsLane lane.board.now lane.settled.now c.advance_implied.new.seat c.push_reserved.new.self.items) (sym c.push_reserved.ensures.capacity)
          (kept_stepping lane.board.now lane.settled.now lane.seat c.advance_implied.new.seat lane.trail.items c.push_reserved.new.self.items c.args.fate _ _ kept c.advance_implied.ensures.known
          c.advance_implied.ensures.place c.push_reserved.ensures.items next),
      tt,
    )
