use Rattle.wire_runs.proofs.LeastFar.{have_least}
use Rattle.wire_runs.proofs.placing_laws.have_least.Goals as goal

pub returns : goal.returns
returns c = have_least
