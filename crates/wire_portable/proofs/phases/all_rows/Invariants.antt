use Rattle.std.proofs.Common.{map}
use Rattle.wire_portable.proofs.PhaseRows.{AreMainRowsTo}
use Rattle.wire_portable.proofs.phases.all_rows.Given as goal

abbrev pub invariant-loop-number : goal.invariant-loop-number
invariant-loop-number l = AreMainRowsTo l.plan l.sets l.number (map (λ row. row.items) l.rows.items)
