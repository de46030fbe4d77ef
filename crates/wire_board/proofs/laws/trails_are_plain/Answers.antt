use Rattle.wire_board.proofs.PlainTrails.{trails_are_plain}
use Rattle.wire_board.proofs.laws.trails_are_plain.Goals as goal

pub returns : goal.returns
returns c = trails_are_plain
