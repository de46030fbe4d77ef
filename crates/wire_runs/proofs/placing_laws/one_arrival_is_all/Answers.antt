use Rattle.wire_runs.proofs.FenceChains.{one_arrival_is_all}
use Rattle.wire_runs.proofs.placing_laws.one_arrival_is_all.Goals as goal

pub returns : goal.returns
returns c = one_arrival_is_all
