use Rattle.wire_program_laws.proofs.Programs.{programs_tell}
use Rattle.wire_program_laws.proofs.laws.programs_tell.Goals as goal

pub returns : goal.returns
returns c = programs_tell
