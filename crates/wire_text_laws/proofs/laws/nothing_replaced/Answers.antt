use Rattle.wire_text_laws.proofs.Strings.{nothing_replaced}
use Rattle.wire_text_laws.proofs.laws.nothing_replaced.Goals as goal

pub returns : goal.returns
returns c = nothing_replaced
