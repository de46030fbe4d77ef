use Rattle.wire_runs.proofs.SmallInstances.{fewer_settle}
use Rattle.wire_runs.proofs.embedding_laws.fewer_settle.Goals as goal

pub returns : goal.returns
returns c = fewer_settle
