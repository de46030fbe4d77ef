use Rattle.wire_runs.proofs.Due.{enabled_is_due}
use Rattle.wire_runs.proofs.laws.enabled_is_due.Goals as goal

pub returns : goal.returns
returns c = enabled_is_due
