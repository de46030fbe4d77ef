use Rattle.wire_runs.proofs.Placements.{pairs_suffice}
use Rattle.wire_runs.proofs.embedding_laws.pairs_suffice.Goals as goal

pub returns : goal.returns
returns c = pairs_suffice
