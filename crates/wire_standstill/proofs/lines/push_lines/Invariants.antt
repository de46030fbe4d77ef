use Rattle.std.proofs.Common.{◌≡◌, ◌++◌, drop}
use Rattle.wire_core.specs.Course.{state_of}
use Rattle.wire_standstill.specs.Lines.{lines_of}
use Rattle.wire_standstill.proofs.lines.push_lines.Given as goal

abbrev pub invariant-loop-rank : goal.invariant-loop-rank
invariant-loop-rank l =
    l.out.items ++ lines_of l.core.scripts (state_of l.core) (drop l.rank-index l.ranks) ≡ l.initial.out.items ++ lines_of l.core.scripts (state_of l.core) l.ranks
