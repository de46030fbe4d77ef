use Rattle.wire_program_laws.proofs.Tells.{one_run_tells}
use Rattle.wire_program_laws.proofs.laws.one_run_tells.Goals as goal

pub returns : goal.returns
returns c = one_run_tells
