use Rattle.wire_runs.proofs.OneMore.{one_event_between}
use Rattle.wire_runs.proofs.laws.one_event_between.Goals as goal

pub returns : goal.returns
returns c = one_event_between
