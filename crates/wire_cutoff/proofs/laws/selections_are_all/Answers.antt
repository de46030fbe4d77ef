use Rattle.wire_cutoff.proofs.Ordered.{selections_are_all}
use Rattle.wire_cutoff.proofs.laws.selections_are_all.Goals as goal

pub returns : goal.returns
returns c = selections_are_all
