use Rattle.wire_size_laws.proofs.Largest.{largest_tells}
use Rattle.wire_size_laws.proofs.laws.largest_tells.Goals as goal

pub returns : goal.returns
returns c = largest_tells
