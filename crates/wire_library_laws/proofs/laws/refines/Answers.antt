use Rattle.wire_library_laws.proofs.Runs.{refines}
use Rattle.wire_library_laws.proofs.laws.refines.Goals as goal

pub returns : goal.returns
returns c = refines
