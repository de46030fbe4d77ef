use Rattle.wire_size_laws.proofs.Happens.{live_happens}
use Rattle.wire_size_laws.proofs.laws.live_happens.Goals as goal

pub returns : goal.returns
returns c = live_happens
