use Rattle.std.proofs.Common.{◌-◌, ◌≤◌, ℕ, length, map}
use Rattle.wire_runs.specs.Plan.{event_of}
use Rattle.wire_scripts.specs.Planned.{plan_of}
use Rattle.wire_races.specs.NameRaces.{AreRising, AreOf, IsBelow}
use Rattle.wire_fates.proofs.Cuts.{IsNarrowed}
use Rattle.wire_races.proofs.call_races.count_below.Given as goal

abbrev pub invariant-bisection : goal.invariant-bisection
invariant-bisection l = record {
  order : l.low ≤ l.high;
  within : l.high ≤ length l.run;
  narrowed : (p : ℕ) → AreRising (map event_of l.run) → AreOf p (map event_of l.run) →
      IsNarrowed (IsBelow (plan_of l.marked) (event_of l.x) l.border) (map event_of l.run) l.low l.high;
}

abbrev pub decreases-bisection : goal.decreases-bisection
decreases-bisection l = l.high - l.low
