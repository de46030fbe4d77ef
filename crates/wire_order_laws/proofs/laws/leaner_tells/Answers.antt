use Rattle.wire_order_laws.proofs.Leaner.{leaner_tells}
use Rattle.wire_order_laws.proofs.laws.leaner_tells.Goals as goal

pub returns : goal.returns
returns c = leaner_tells
