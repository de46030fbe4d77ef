use Rattle.wire_pattern_waits.proofs.Judged.{EachBefore}
use Rattle.wire_pattern_commands.specs.FirstWait.{RunsThrough}
use Rattle.wire_pattern_commands.proofs.first_wait.wait_among.Given as goal

abbrev pub invariant-loop-selection : goal.invariant-loop-selection
invariant-loop-selection l = EachBefore l.pattern (RunsThrough l.pattern) l.selection-index
