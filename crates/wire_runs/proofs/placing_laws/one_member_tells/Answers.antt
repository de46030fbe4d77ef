use Rattle.wire_runs.proofs.FenceChains.{one_member_tells}
use Rattle.wire_runs.proofs.placing_laws.one_member_tells.Goals as goal

pub returns : goal.returns
returns c = one_member_tells
