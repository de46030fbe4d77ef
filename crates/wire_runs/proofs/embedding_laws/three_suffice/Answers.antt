use Rattle.wire_runs.proofs.SmallInstances.{three_suffice}
use Rattle.wire_runs.proofs.embedding_laws.three_suffice.Goals as goal

pub returns : goal.returns
returns c = three_suffice
