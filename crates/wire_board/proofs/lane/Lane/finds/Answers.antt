use Rattle.wire_plan.specs.Index.{source_list}
use Rattle.wire_board.proofs.Looking.{kept_looking}
use Rattle.wire_board.proofs.lane.Lane.finds.Goals as goal

pub invariant_of-self : goal.invariant_of-self
invariant_of-self c =
    let lane = c.self.inside in
    let e = c.read.ensures in
    kept_looking lane.board.now lane.settled.now lane.seat c.read.new.seat c.args.source.proc.number c.read.result lane.trail.items _ (λ s. source_list s.previous s.awaited s.arrivals.now) lane.left
    c.self.invariant.0 c.self.invariant.1 e.known e.rises e.own
