use Rattle.std.proofs.Common.{◌-◌}
use Rattle.wire_clocks.proofs.Joining.{Joins}
use Rattle.wire_clocks.proofs.rows.+join.Given as goal

abbrev pub decreases-join : goal.decreases-join
decreases-join l = l.level

abbrev pub invariant-each : goal.invariant-each
invariant-each l = Joins l.initial.rows.items l.rows.items (l.level - 1) l.lefts l.rights l.joined l.i
