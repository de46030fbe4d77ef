use Rattle.wire_text_laws.proofs.Steps.{order_reads_back}
use Rattle.wire_text_laws.proofs.laws.order_reads_back.Goals as goal

pub returns : goal.returns
returns c = order_reads_back
