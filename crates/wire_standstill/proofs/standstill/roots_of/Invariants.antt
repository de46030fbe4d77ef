use Rattle.std.proofs.Common.{◌≡◌}
use Rattle.wire_core.specs.Course.{plan_in, state_of}
use Rattle.wire_standstill.specs.Standstill.{is_root, ranks_below}
use Rattle.wire_standstill.proofs.standstill.roots_of.Given as goal

abbrev pub invariant-loop-number : goal.invariant-loop-number
invariant-loop-number l = l.roots.items ≡ ranks_below (is_root (plan_in l.core) (state_of l.core) l.waits) l.number
