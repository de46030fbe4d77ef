use Rattle.wire_runs.proofs.FindingsAnywhere.{one_pair}
use Rattle.wire_runs.proofs.placing_laws.one_pair.Goals as goal

pub returns : goal.returns
returns c = one_pair
