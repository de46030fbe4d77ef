use Rattle.wire_runs.proofs.OneEnd.{enabled_commute}
use Rattle.wire_runs.proofs.laws.enabled_commute.Goals as goal

pub returns : goal.returns
returns c = enabled_commute
