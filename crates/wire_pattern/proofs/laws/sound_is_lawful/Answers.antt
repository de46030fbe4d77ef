use Rattle.wire_pattern.proofs.Lawful.{sound_is_lawful}
use Rattle.wire_pattern.proofs.laws.sound_is_lawful.Goals as goal

pub returns : goal.returns
returns c = sound_is_lawful
