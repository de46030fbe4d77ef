use Rattle.wire_runs.proofs.Delivered.{delivered_by_last}
use Rattle.wire_runs.proofs.laws.delivered_by_last.Goals as goal

pub returns : goal.returns
returns c = delivered_by_last
