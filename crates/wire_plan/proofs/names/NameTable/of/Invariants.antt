use Rattle.wire_scripts.specs.Planned.{plan_of}
use Rattle.wire_plan.specs.Tables.{AreNamesTo}
use Rattle.wire_plan.proofs.names.NameTable.of.Given as goal

abbrev pub invariant-loop-number : goal.invariant-loop-number
invariant-loop-number l = AreNamesTo (plan_of l.events) l.number 0 l.table
