use Rattle.wire_runs.proofs.Reached.{sound_is_reached}
use Rattle.wire_runs.proofs.laws.sound_is_reached.Goals as goal

pub returns : goal.returns
returns c = sound_is_reached
