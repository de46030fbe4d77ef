use Rattle.std.proofs.Common.{◌≤◌, map}
use Rattle.wire_runs.specs.Plan.{event_of}
use Rattle.wire_scripts.specs.Planned.{plan_of}
use Rattle.wire_plan.specs.Bringing.{NoneInFront}
use Rattle.wire_plan.proofs.bringing.BringingArrivals.first_from.Given as goal

abbrev pub invariant-loop-place : goal.invariant-loop-place
invariant-loop-place l = record {
  above : l.first ≤ l.place;
  none : NoneInFront (plan_of l.events) l.from.proc.number l.node l.from.at (map event_of l.list) l.place;
}
