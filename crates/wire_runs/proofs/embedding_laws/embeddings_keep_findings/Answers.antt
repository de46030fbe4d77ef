use Rattle.wire_runs.proofs.EmbeddedFindings.{embeddings_keep_findings}
use Rattle.wire_runs.proofs.embedding_laws.embeddings_keep_findings.Goals as goal

pub returns : goal.returns
returns c = embeddings_keep_findings
