use Rattle.std.proofs.Common.{ap}
use Rattle.wire_procmap.specs.declared.row.ProcessNumbers.{ProcessNumbers}
use Rattle.wire_procmap.specs.Rows.{row_of}
use Rattle.wire_procmap.proofs.map.ProcMap.local_rank.Goals as goal

pub returns : goal.returns
unfolding row_of
returns c = λ s is. ap (λ (r : ProcessNumbers). r.local_rank) (c.numbers.ensures s is)
