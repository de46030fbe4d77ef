use Rattle.wire_scripts.specs.Planned.{plan_of}
use Rattle.wire_plan.specs.Bringing.{AreBringingTo}
use Rattle.wire_plan.proofs.bringing.BringingArrivals.add_process.Given as goal

abbrev pub invariant-loop-at : goal.invariant-loop-at
invariant-loop-at l = AreBringingTo (plan_of l.events) l.proc.number 0 l.fn.self → AreBringingTo (plan_of l.events) l.proc.number l.at l.self
