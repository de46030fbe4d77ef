use Rattle.std.proofs.Common.{ap}
use Rattle.wire_procmap.specs.declared.row.ProcessNumbers.{ProcessNumbers}
use Rattle.wire_procmap.specs.Rows.{row_of}
use Rattle.wire_procmap.proofs.map.ProcMap.place_of.Goals as goal

pub returns-clause-job : goal.returns-clause-job
unfolding row_of
returns-clause-job c = λ s is. ap (λ (r : ProcessNumbers). r.job) (c.numbers-row.ensures s is)

pub returns-clause-rank : goal.returns-clause-rank
unfolding row_of
returns-clause-rank c = λ s is. ap (λ (r : ProcessNumbers). r.rank) (c.numbers-row.ensures s is)
