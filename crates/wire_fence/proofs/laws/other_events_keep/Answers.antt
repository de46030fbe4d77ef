use Rattle.wire_fence.proofs.Missing.{other_events_keep}
use Rattle.wire_fence.proofs.laws.other_events_keep.Goals as goal

pub returns : goal.returns
returns c = other_events_keep
