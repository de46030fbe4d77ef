use Rattle.wire_order_laws.proofs.Unread.{bare_finds}
use Rattle.wire_order_laws.proofs.laws.bare_finds.Goals as goal

pub returns : goal.returns
returns c = bare_finds
