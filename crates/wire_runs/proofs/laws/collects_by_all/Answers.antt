use Rattle.wire_runs.proofs.Collecting.{collects_by_all}
use Rattle.wire_runs.proofs.laws.collects_by_all.Goals as goal

pub returns : goal.returns
returns c = collects_by_all
