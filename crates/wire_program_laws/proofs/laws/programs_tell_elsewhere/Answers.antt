use Rattle.wire_program_laws.proofs.Elsewhere.{programs_tell_elsewhere}
use Rattle.wire_program_laws.proofs.laws.programs_tell_elsewhere.Goals as goal

pub returns : goal.returns
returns c = programs_tell_elsewhere
