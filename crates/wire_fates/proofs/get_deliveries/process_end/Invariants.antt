use Rattle.std.proofs.Common.{◌-◌, ◌<◌, ◌≤◌, length, map}
use Rattle.wire_runs.specs.Plan.{event_of}
use Rattle.wire_fates.specs.Deliveries.{AreOfOne, EndsAt}
use Rattle.wire_fates.proofs.get_deliveries.process_end.Given as goal

abbrev pub invariant-bisection : goal.invariant-bisection
invariant-bisection l = record {
  order : l.low ≤ l.high;
  within : l.high ≤ length l.gets;
  after : l.place < l.low;
  last : AreOfOne (map event_of l.gets) l.place (l.low - 1);
  end : EndsAt (map event_of l.gets) l.place l.high;
}

abbrev pub decreases-bisection : goal.decreases-bisection
decreases-bisection l = l.high - l.low
