use Rattle.wire_pattern_laws.proofs.StatusesPlaced.{statuses_told}
use Rattle.wire_pattern_laws.proofs.laws.statuses_told.Goals as goal

pub returns : goal.returns
returns c = statuses_told
