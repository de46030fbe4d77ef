use Rattle.wire_races.proofs.Pairs.{reported_exactly}
use Rattle.wire_races.proofs.laws.reported_exactly.Goals as goal

pub returns : goal.returns
returns c = reported_exactly
