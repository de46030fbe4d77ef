use Rattle.wire_pattern_commands.proofs.InstancesShown.{instances_read_back}
use Rattle.wire_pattern_commands.proofs.laws.instances_read_back.Goals as goal

pub returns : goal.returns
returns c = instances_read_back
