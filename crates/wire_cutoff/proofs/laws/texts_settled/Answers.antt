use Rattle.wire_cutoff.proofs.Texts.{texts_settled}
use Rattle.wire_cutoff.proofs.laws.texts_settled.Goals as goal

pub returns : goal.returns
returns c = texts_settled
