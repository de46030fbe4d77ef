use Rattle.wire_instance_laws.proofs.Read.{instances_read}
use Rattle.wire_instance_laws.proofs.laws.instances_read.Goals as goal

pub returns : goal.returns
returns c = instances_read
