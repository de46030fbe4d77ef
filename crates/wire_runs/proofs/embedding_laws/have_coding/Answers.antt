use Rattle.wire_runs.proofs.Codings.{have_coding}
use Rattle.wire_runs.proofs.embedding_laws.have_coding.Goals as goal

pub returns : goal.returns
returns c = have_coding
