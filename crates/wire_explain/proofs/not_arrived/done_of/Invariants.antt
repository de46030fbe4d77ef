use Rattle.std.proofs.Common.{◌≤◌}
use Rattle.wire_core.specs.Course.{state_of}
use Rattle.wire_explain.proofs.not_arrived.done_of.Given as goal

abbrev pub invariant-loop-at : goal.invariant-loop-at
invariant-loop-at l = l.at ≤ (state_of l.core).done l.proc.number
