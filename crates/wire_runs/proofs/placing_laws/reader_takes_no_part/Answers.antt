use Rattle.wire_runs.proofs.FenceChains.{reader_takes_no_part}
use Rattle.wire_runs.proofs.placing_laws.reader_takes_no_part.Goals as goal

pub returns : goal.returns
returns c = reader_takes_no_part
