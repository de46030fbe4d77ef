use Rattle.wire_pattern_answers.proofs.Placed.{few_placings_tell}
use Rattle.wire_pattern_answers.proofs.laws.few_placings_tell.Goals as goal

pub returns : goal.returns
returns c = few_placings_tell
