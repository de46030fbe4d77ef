use Rattle.wire_findings.proofs.OneList.{one_told}
use Rattle.wire_races.proofs.laws.one_list.Goals as goal

pub returns : goal.returns
returns c = one_told
