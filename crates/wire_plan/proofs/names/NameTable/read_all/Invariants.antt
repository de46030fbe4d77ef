use Rattle.wire_scripts.specs.Planned.{plan_of}
use Rattle.wire_plan.specs.Tables.{AreNamesTo}
use Rattle.wire_plan.proofs.names.NameTable.read_all.Given as goal

abbrev pub invariant-loop-at : goal.invariant-loop-at
invariant-loop-at l = AreNamesTo (plan_of l.events) l.proc.number 0 l.fn.self → AreNamesTo (plan_of l.events) l.proc.number l.at l.self
