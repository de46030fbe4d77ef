use Rattle.std.proofs.Common.{◌≡◌, ◌++◌, replicate}
use Rattle.wire_instances.proofs.tables.push_copies.Given as goal

abbrev pub invariant-loop-copy : goal.invariant-loop-copy
invariant-loop-copy l = l.out.items ≡ l.fn.out.items ++ replicate l._copy l.value
