use Rattle.wire_runs.proofs.Findings.{no_findings}
use Rattle.wire_runs.proofs.laws.no_findings.Goals as goal

pub returns : goal.returns
returns c = no_findings
