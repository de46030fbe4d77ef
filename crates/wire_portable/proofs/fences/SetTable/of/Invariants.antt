use Rattle.std.proofs.Common.{◌≡◌}
use Rattle.wire_portable.proofs.fences.SetTable.of.Given as goal

abbrev pub invariant-loop-number : goal.invariant-loop-number
invariant-loop-number l = l.table.one_job ≡ l.initial.table.one_job
