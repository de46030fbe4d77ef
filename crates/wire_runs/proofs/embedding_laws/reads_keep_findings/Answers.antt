use Rattle.wire_runs.proofs.MoreReads.{reads_keep_findings}
use Rattle.wire_runs.proofs.embedding_laws.reads_keep_findings.Goals as goal

pub returns : goal.returns
returns c = reads_keep_findings
