use Rattle.wire_runs.proofs.PlacingRuns.{run_alike}
use Rattle.wire_runs.proofs.placing_laws.placings_run_alike.Goals as goal

pub returns : goal.returns
returns c = run_alike
