use Rattle.wire_fence.proofs.Missing.{arrival_counts}
use Rattle.wire_fence.proofs.laws.arrival_counts.Goals as goal

pub returns : goal.returns
returns c = arrival_counts
