use Rattle.wire_runs.proofs.FindingsAnywhere.{placings_are}
use Rattle.wire_runs.proofs.placing_laws.placings_are.Goals as goal

pub returns : goal.returns
returns c = placings_are
