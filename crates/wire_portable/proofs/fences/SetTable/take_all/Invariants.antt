use Rattle.std.proofs.Common.{◌≡◌}
use Rattle.wire_portable.proofs.fences.SetTable.take_all.Given as goal

abbrev pub invariant-loop-at : goal.invariant-loop-at
invariant-loop-at l = l.self.one_job ≡ l.fn.self.one_job
