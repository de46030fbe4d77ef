use Rattle.wire_runs.proofs.FindingsAnywhere.{placed_is_found}
use Rattle.wire_runs.proofs.placing_laws.placed_is_found.Goals as goal

pub returns : goal.returns
returns c = placed_is_found
