use Rattle.wire_scripts.specs.Planned.{plan_of}
use Rattle.wire_plan.specs.Gets.{AreGetsTo}
use Rattle.wire_plan.proofs.gets.GetTable.add_process.Given as goal

abbrev pub invariant-loop-at : goal.invariant-loop-at
invariant-loop-at l = AreGetsTo (plan_of l.events) l.proc.number 0 l.fn.self → AreGetsTo (plan_of l.events) l.proc.number l.at l.self
