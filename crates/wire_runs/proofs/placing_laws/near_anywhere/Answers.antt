use Rattle.wire_runs.proofs.Anywhere.{near_anywhere}
use Rattle.wire_runs.proofs.placing_laws.near_anywhere.Goals as goal

pub returns : goal.returns
returns c = near_anywhere
