use Rattle.wire_portable.proofs.PlainFences.{TellsTo}
use Rattle.wire_portable.proofs.fences.SetTable.of_sets.Given as goal

abbrev pub invariant-loop-set : goal.invariant-loop-set
invariant-loop-set l = TellsTo l.scripts l.set l.one_job.items
