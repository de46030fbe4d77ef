use Rattle.std.proofs.Common.{◌≡◌, ◌≤◌}
use Rattle.wire_runs.specs.Plan.{set_of}
use Rattle.wire_runs.specs.Fences.{arrivals}
use Rattle.wire_scripts.specs.Scripts.{set_at}
use Rattle.wire_core.specs.Course.{plan_in}
use Rattle.wire_explain.proofs.not_arrived.arrivals.Given as goal

abbrev pub invariant-loop-at : goal.invariant-loop-at
invariant-loop-at l = record {
  counted : l.count ≡ arrivals (plan_in l.core) l.proc.number (set_of (set_at l.core.scripts.sets l.set)) l.at;
  few : l.count ≤ l.at;
}
