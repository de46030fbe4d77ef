use Rattle.wire_cutoff_laws.proofs.Few.{cutoff_suffices}
use Rattle.wire_cutoff_laws.proofs.laws.cutoff_suffices.Goals as goal

pub returns : goal.returns
returns c = cutoff_suffices
