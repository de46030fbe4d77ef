use Rattle.wire_runs.proofs.OneMore.{steps_move_cuts}
use Rattle.wire_runs.proofs.laws.steps_move_cuts.Goals as goal

pub returns : goal.returns
returns c = steps_move_cuts
