use Rattle.wire_scripts.specs.Planned.{plan_of}
use Rattle.wire_plan.specs.Bringing.{AreBringingTo}
use Rattle.wire_plan.proofs.bringing.BringingArrivals.of.Given as goal

abbrev pub invariant-loop-number : goal.invariant-loop-number
invariant-loop-number l = AreBringingTo (plan_of l.events) l.number 0 l.table
