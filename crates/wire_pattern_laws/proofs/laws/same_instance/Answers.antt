use Rattle.wire_pattern_laws.proofs.SameCalls.{same_instance}
use Rattle.wire_pattern_laws.proofs.laws.same_instance.Goals as goal

pub returns : goal.returns
returns c = same_instance
