use Rattle.std.proofs.Common.{◌≡◌}
use Rattle.wire_parallel_run.proofs.by_core.serve_all.Given as goal

abbrev pub invariant-served : goal.invariant-served
invariant-served g l = l.core.scripts ≡ l.initial.core.scripts
