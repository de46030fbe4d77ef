use Rattle.wire_instance_laws.proofs.Located.{lines_lead}
use Rattle.wire_instance_laws.proofs.laws.lines_lead.Goals as goal

pub returns : goal.returns
returns c = lines_lead
