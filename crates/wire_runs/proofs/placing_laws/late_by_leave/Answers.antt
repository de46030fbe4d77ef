use Rattle.wire_runs.proofs.FenceChains.{late_by_leave}
use Rattle.wire_runs.proofs.placing_laws.late_by_leave.Goals as goal

pub returns : goal.returns
returns c = late_by_leave
