use Rattle.std.proofs.Common.{◌-◌, ◌≤◌, ℕ, length}
use Rattle.wire_runs.specs.Plan.{event_of}
use Rattle.wire_scripts.specs.Planned.{plan_of}
use Rattle.wire_runs.specs.Order.{Live, Before}
use Rattle.wire_runs.specs.Races.{IsSettled}
use Rattle.wire_happens_before.specs.Updates.{AreUpdates}
use Rattle.wire_fates.specs.Pasts.{events_in}
use Rattle.wire_fates.proofs.Cuts.{IsNarrowed}
use Rattle.wire_fates.proofs.name_fates.count_before.Given as goal

abbrev pub invariant-bisection : goal.invariant-bisection
invariant-bisection l = record {
  order : l.low ≤ l.high;
  within : l.high ≤ length l.updates;
  narrowed : (name : ℕ) → IsSettled (plan_of l.marked) → AreUpdates (plan_of l.marked) (Live (plan_of l.marked)) name l.updates →
      IsNarrowed (λ z. Before (plan_of l.marked) z (event_of l.event)) (events_in l.updates) l.low l.high;
}

abbrev pub decreases-bisection : goal.decreases-bisection
decreases-bisection l = l.high - l.low
