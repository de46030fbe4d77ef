use Rattle.wire_runs.proofs.PlacingEnds.{ends_alike}
use Rattle.wire_runs.proofs.placing_laws.placings_end_alike.Goals as goal

pub returns : goal.returns
returns c = ends_alike
