use Rattle.std.proofs.Common.{◌<◌}
use Rattle.wire_parallel_run.proofs.over_core.run_core.Given as goal

abbrev pub invariant-rounds : goal.invariant-rounds
invariant-rounds g l = 0 < l.wanted
