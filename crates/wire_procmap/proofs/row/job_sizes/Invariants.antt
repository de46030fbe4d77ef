use Rattle.std.proofs.Common.{take}
use Rattle.wire_procmap.specs.Tallies.{job_of, IsTally}
use Rattle.wire_procmap.proofs.row.job_sizes.Given as goal

abbrev pub invariant-loop-process : goal.invariant-loop-process
invariant-loop-process l = IsTally job_of (take l.process-index l.processes) l.sizes
