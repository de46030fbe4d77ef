use Rattle.wire_pattern_laws.proofs.SmallFinds.{statuses_of_small}
use Rattle.wire_pattern_laws.proofs.laws.statuses_of_small.Goals as goal

pub returns : goal.returns
returns c = statuses_of_small
