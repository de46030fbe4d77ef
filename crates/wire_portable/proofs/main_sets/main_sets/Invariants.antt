use Rattle.wire_portable.proofs.PhaseRows.{AreMembersTo}
use Rattle.wire_portable.proofs.main_sets.main_sets.Given as goal

abbrev pub invariant-loop-number : goal.invariant-loop-number
invariant-loop-number l = AreMembersTo l.plan l.number l.sets.items
