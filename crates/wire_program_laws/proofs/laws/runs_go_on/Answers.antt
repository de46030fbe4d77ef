use Rattle.wire_program_laws.proofs.Going.{runs_go_on}
use Rattle.wire_program_laws.proofs.laws.runs_go_on.Goals as goal

pub returns : goal.returns
returns c = runs_go_on
