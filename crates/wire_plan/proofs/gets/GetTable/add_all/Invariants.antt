use Rattle.wire_scripts.specs.Planned.{plan_of}
use Rattle.wire_plan.specs.Gets.{AreGetsTo}
use Rattle.wire_plan.proofs.gets.GetTable.add_all.Given as goal

abbrev pub invariant-loop-number : goal.invariant-loop-number
invariant-loop-number l = AreGetsTo (plan_of l.events) 0 0 l.fn.self → AreGetsTo (plan_of l.events) l.number 0 l.self
