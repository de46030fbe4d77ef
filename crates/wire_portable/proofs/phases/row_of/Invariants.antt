use Rattle.wire_runs.specs.Plan.{set_of}
use Rattle.wire_scripts.specs.Scripts.{set_at}
use Rattle.wire_scripts.specs.Planned.{plan_of}
use Rattle.wire_portable.proofs.PhaseRows.{IsRowTo}
use Rattle.wire_portable.proofs.phases.row_of.Given as goal

abbrev pub invariant-loop-at : goal.invariant-loop-at
invariant-loop-at l = IsRowTo (plan_of l.plan) (set_of (set_at l.plan.sets l.set)) l.proc.number l.at l.count l.row.items
