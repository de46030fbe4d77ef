use Rattle.wire_procmap.proofs.Places.{one_process}
use Rattle.wire_procmap.proofs.laws.one_process.Goals as goal

pub returns : goal.returns
returns c = one_process
