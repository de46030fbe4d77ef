use Rattle.wire_runs.proofs.Families.{family_tells}
use Rattle.wire_runs.proofs.placing_laws.family_tells.Goals as goal

pub returns : goal.returns
returns c = family_tells
