use Rattle.wire_runs.proofs.PlainRun.{plain_runs}
use Rattle.wire_runs.proofs.laws.plain_runs.Goals as goal

pub returns : goal.returns
returns c = plain_runs
