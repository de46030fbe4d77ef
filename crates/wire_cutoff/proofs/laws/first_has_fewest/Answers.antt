use Rattle.wire_cutoff.proofs.Ordered.{first_has_fewest}
use Rattle.wire_cutoff.proofs.laws.first_has_fewest.Goals as goal

pub returns : goal.returns
returns c = first_has_fewest
