use Rattle.wire_rounds.proofs.Deals.{forks}
use Rattle.wire_rounds.proofs.deques.cut_permit.Goals as goal

pub another-requires : goal.another-requires
another-requires c = forks _ _ c.requires
