use Rattle.std.proofs.Common.{◌-◌, ◌≤◌}
use Rattle.wire_scripts.specs.Planned.{plan_of}
use Rattle.wire_runs.specs.Laws.{plain_end}
use Rattle.wire_anywhere.proofs.answered.count_answered.Given as goal

abbrev pub invariant-bisection : goal.invariant-bisection
invariant-bisection l = (l.low ≤ (plain_end (plan_of l.marked)).done l.proc.number) × ((plain_end (plan_of l.marked)).done l.proc.number ≤ l.high)

abbrev pub decreases-bisection : goal.decreases-bisection
decreases-bisection l = l.high - l.low
