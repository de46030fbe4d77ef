use Rattle.wire_findings.proofs.OneList.{none_told}
use Rattle.wire_races.proofs.laws.settled_exactly.Goals as goal

pub returns : goal.returns
returns c = none_told
