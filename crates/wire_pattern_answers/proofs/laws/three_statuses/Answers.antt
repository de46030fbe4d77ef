use Rattle.wire_pattern_answers.proofs.Placed.{three_statuses}
use Rattle.wire_pattern_answers.proofs.laws.three_statuses.Goals as goal

pub returns : goal.returns
returns c = three_statuses
