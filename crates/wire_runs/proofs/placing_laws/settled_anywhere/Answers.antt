use Rattle.wire_runs.proofs.Anywhere.{settled_anywhere}
use Rattle.wire_runs.proofs.placing_laws.settled_anywhere.Goals as goal

pub returns : goal.returns
returns c = settled_anywhere
