use Rattle.std.proofs.Common.{refl}
use Rattle.wire_reader.proofs.shared_pass.with_ahead.Goals as goal

pub returns-in-Ok : goal.returns-in-Ok
returns-in-Ok c = (refl, c.in-Ok.is)
