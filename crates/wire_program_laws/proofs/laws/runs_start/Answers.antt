use Rattle.wire_program_laws.proofs.Going.{runs_start}
use Rattle.wire_program_laws.proofs.laws.runs_start.Goals as goal

pub returns : goal.returns
returns c = runs_start
