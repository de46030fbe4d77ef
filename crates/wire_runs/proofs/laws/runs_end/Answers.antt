use Rattle.wire_runs.proofs.Length.{runs_end}
use Rattle.wire_runs.proofs.laws.runs_end.Goals as goal

pub returns : goal.returns
returns c = runs_end
