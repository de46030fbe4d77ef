use Rattle.wire_runs.proofs.Anywhere.{one_a_node_has_none}
use Rattle.wire_runs.proofs.placing_laws.one_a_node_has_none.Goals as goal

pub returns : goal.returns
returns c = one_a_node_has_none
