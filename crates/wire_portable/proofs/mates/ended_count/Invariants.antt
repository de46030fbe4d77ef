use Rattle.std.proofs.Common.{◌≡◌, ◌-◌, ◌<◌, ◌≤◌, ℕ, Some, length, map}
use Rattle.std.specs.Prelude.{slice_get}
use Rattle.wire_runs.specs.Plan.{Event, event_of}
use Rattle.wire_scripts.specs.Planned.{plan_of}
use Rattle.wire_library_laws.specs.Portable.{EndsFirst}
use Rattle.wire_portable.proofs.mates.ended_count.Given as goal

abbrev pub invariant-bisection : goal.invariant-bisection
invariant-bisection l = record {
  order : l.low ≤ l.high;
  within : l.high ≤ length l.gets;
  ended : (k : ℕ) (h : Event) → k < l.low → slice_get (map event_of l.gets) k ≡ Some h → EndsFirst (plan_of l.judge) h (event_of l.get);
}

abbrev pub decreases-bisection : goal.decreases-bisection
decreases-bisection l = l.high - l.low
