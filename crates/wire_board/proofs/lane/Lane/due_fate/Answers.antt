use Rattle.wire_board.proofs.Looking.{due_told}
use Rattle.wire_board.proofs.lane.Lane.due_fate.Goals as goal

pub returns-in-None-clause-fate : goal.returns-in-None-clause-fate
returns-in-None-clause-fate c = due_told c.next_fate.new.self.seat c.next_fate.result c.next_fate.ensures.ready c.next_fate.ensures.fate
