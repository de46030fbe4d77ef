use Rattle.wire_reply_laws.proofs.TextsAnswered.{texts_answered}
use Rattle.wire_reply_laws.proofs.laws.texts_answered.Goals as goal

pub returns : goal.returns
returns c = texts_answered
