use Rattle.wire_scripts.proofs.Moved.{moved_is_placing}
use Rattle.wire_scripts.proofs.laws.moved_is_placing.Goals as goal

pub returns : goal.returns
returns c = moved_is_placing
