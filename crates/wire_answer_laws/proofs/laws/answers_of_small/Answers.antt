use Rattle.wire_answer_laws.proofs.AnySize.{answers_of_small}
use Rattle.wire_answer_laws.proofs.laws.answers_of_small.Goals as goal

pub returns : goal.returns
returns c = answers_of_small
