use Rattle.wire_cutoff.proofs.Judged.{AreSettledTo}
use Rattle.wire_cutoff.proofs.cutoff.judge_all.Given as goal

abbrev pub invariant-loop-selection : goal.invariant-loop-selection
invariant-loop-selection g l = AreSettledTo l.pattern l.all l.selection-index
