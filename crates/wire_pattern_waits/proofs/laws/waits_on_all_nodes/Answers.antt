use Rattle.wire_pattern_waits.proofs.AllNodes.{waits_on_all_nodes}
use Rattle.wire_pattern_waits.proofs.laws.waits_on_all_nodes.Goals as goal

pub returns : goal.returns
returns c = waits_on_all_nodes
