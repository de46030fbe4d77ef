use Rattle.std.proofs.Common.{◌≡◌, ◌++◌}
use Rattle.wire_plan.proofs.key_rows.KeyRows.of.Given as goal

abbrev pub invariant-loop-key : goal.invariant-loop-key
invariant-loop-key l = l.rows.items ++ l.key-iterator ≡ l.map.entries
