use Rattle.wire_reply_laws.proofs.Lawful.{all_answered}
use Rattle.wire_reply_laws.proofs.laws.all_answered.Goals as goal

pub returns : goal.returns
returns c = all_answered
