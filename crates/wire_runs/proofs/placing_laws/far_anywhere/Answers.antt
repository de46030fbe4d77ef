use Rattle.wire_runs.proofs.Anywhere.{far_anywhere}
use Rattle.wire_runs.proofs.placing_laws.far_anywhere.Goals as goal

pub returns : goal.returns
returns c = far_anywhere
