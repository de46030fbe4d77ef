use Rattle.wire_runs.proofs.HaveFates.{have_fates}
use Rattle.wire_runs.proofs.laws.have_fates.Goals as goal

pub returns : goal.returns
returns c = have_fates
