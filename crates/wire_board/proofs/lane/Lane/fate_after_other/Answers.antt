use Rattle.wire_runs.specs.Plan.{event_of}
use Rattle.wire_board.proofs.Looking.{implied_fate}
use Rattle.wire_board.proofs.lane.Lane.fate_after_other.Goals as goal

pub returns-clause-fate : goal.returns-clause-fate
returns-clause-fate c =
    let new = c.finds_other_left.new.self in
    let sources = c.finds_other_left.ensures.found c.if-not-finds_other_left.false in
    implied_fate c.args.self.now new (event_of c.in-Some.event) c.fate_of.result c.finds_other_left.ensures.read c.in-Some.ensures.0 c.in-Some.ensures.1 sources c.fate_of.ensures
