use Rattle.wire_runs.proofs.OneMore.{one_state}
use Rattle.wire_runs.proofs.laws.one_state.Goals as goal

pub returns : goal.returns
returns c = one_state
