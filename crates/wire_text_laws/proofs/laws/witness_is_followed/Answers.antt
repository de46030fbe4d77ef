use Rattle.wire_text_laws.proofs.Shown.{witness_is_followed}
use Rattle.wire_text_laws.proofs.laws.witness_is_followed.Goals as goal

pub returns : goal.returns
returns c = witness_is_followed
