use Rattle.wire_runs.proofs.FindingsAnywhere.{findings_anywhere}
use Rattle.wire_runs.proofs.placing_laws.findings_anywhere.Goals as goal

pub returns : goal.returns
returns c = findings_anywhere
