use Rattle.wire_runs.proofs.Families.{placing_tells}
use Rattle.wire_runs.proofs.placing_laws.placing_tells.Goals as goal

pub returns : goal.returns
returns c = placing_tells
