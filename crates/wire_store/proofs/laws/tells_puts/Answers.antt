use Rattle.wire_store.proofs.Told.{store_tells}
use Rattle.wire_store.proofs.laws.tells_puts.Goals as goal

pub returns : goal.returns
returns c = store_tells
