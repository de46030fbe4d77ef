use Rattle.wire_runs.proofs.Renumbered.{renumbered_settle}
use Rattle.wire_runs.proofs.embedding_laws.renumbered_settle.Goals as goal

pub returns : goal.returns
returns c = renumbered_settle
