use Rattle.wire_board.proofs.Steps.{stores_are_steps}
use Rattle.wire_board.proofs.laws.stores_are_steps.Goals as goal

pub returns : goal.returns
returns c = stores_are_steps
