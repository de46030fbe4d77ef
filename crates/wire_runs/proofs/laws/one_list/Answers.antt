use Rattle.wire_runs.proofs.Findings.{one_list}
use Rattle.wire_runs.proofs.laws.one_list.Goals as goal

pub returns : goal.returns
returns c = one_list
