use Rattle.wire_findings.proofs.Packing.{standing_told}
use Rattle.wire_findings.proofs.found.standing_of.Goals as goal

pub returns : goal.returns
returns c = standing_told c.args.subjects.now c.args.entry.now
