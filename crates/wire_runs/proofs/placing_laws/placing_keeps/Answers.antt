use Rattle.wire_runs.proofs.PlacingKeeps.{placing_keeps}
use Rattle.wire_runs.proofs.placing_laws.placing_keeps.Goals as goal

pub returns : goal.returns
returns c = placing_keeps
