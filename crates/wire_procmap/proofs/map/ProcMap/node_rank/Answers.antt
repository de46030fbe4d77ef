use Rattle.std.proofs.Common.{ap}
use Rattle.wire_procmap.specs.declared.row.ProcessNumbers.{ProcessNumbers}
use Rattle.wire_procmap.specs.Rows.{row_of}
use Rattle.wire_procmap.proofs.map.ProcMap.node_rank.Goals as goal

pub returns : goal.returns
unfolding row_of
returns c = λ s is. ap (λ (r : ProcessNumbers). r.node_rank) (c.numbers.ensures s is)
