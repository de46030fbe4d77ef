use Rattle.std.proofs.Common.{◌-◌, ◌≤◌, length, map}
use Rattle.wire_runs.specs.Plan.{event_of}
use Rattle.wire_fates.proofs.OwnArrivals.{IsBetween}
use Rattle.wire_fates.proofs.fence_deliveries.bisect_arrival.Given as goal

abbrev pub invariant-bisection : goal.invariant-bisection
invariant-bisection l = record {
  order : l.low ≤ l.high;
  within : l.high ≤ length l.arrivals;
  between : IsBetween l.proc.number (map event_of l.arrivals) l.low l.high;
}

abbrev pub decreases-bisection : goal.decreases-bisection
decreases-bisection l = l.high - l.low
