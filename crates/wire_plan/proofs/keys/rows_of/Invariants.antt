use Rattle.std.specs.BTreeMap.{get}
use Rattle.std.specs.Ordering.{nat_cmp}
use Rattle.wire_runs.specs.Plan.{kind_at, event_count}
use Rattle.wire_scripts.specs.Planned.{plan_of}
use Rattle.wire_plan.specs.Keys.{AreRowsFrom}
use Rattle.wire_plan.proofs.keys.rows_of.Given as goal

abbrev pub invariant-loop-at : goal.invariant-loop-at
invariant-loop-at l = AreRowsFrom (kind_at (plan_of l.events) l.proc.number) l.at (event_count (plan_of l.events) l.proc.number) (get nat_cmp l.scan.rows) l.scan.commit
