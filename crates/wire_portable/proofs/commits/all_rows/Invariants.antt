use Rattle.std.proofs.Common.{map}
use Rattle.wire_scripts.specs.Planned.{plan_of}
use Rattle.wire_portable.proofs.Gathered.{AreRowsTo}
use Rattle.wire_portable.proofs.commits.all_rows.Given as goal

abbrev pub invariant-loop-number : goal.invariant-loop-number
invariant-loop-number l = AreRowsTo (plan_of l.marked) l.number (map (λ row. row.items) l.rows.items)
