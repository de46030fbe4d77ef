use Rattle.std.proofs.Common.{map, length}
use Rattle.wire_runs.specs.Plan.{event_of}
use Rattle.wire_scripts.specs.Planned.{plan_of}
use Rattle.wire_findings.specs.Collected.{AreFound}
use Rattle.wire_races.specs.NameRaces.{AreRivals}
use Rattle.wire_races.proofs.NameRaces.{IsLeft}
use Rattle.wire_races.proofs.name_races.add_rivals.Given as goal

abbrev pub invariant-stretches : goal.invariant-stretches
invariant-stretches l = record {
  found : AreFound (plan_of l.marked) l.found;
  rivals : AreRivals (plan_of l.marked) l.x.name (event_of l.x.event) (map event_of l.rest);
  left : IsLeft (plan_of l.marked) l.x.name (event_of l.x.event) l.initial.found l.found (map event_of l.rivals) (map event_of l.rest);
}

abbrev pub decreases-stretches : goal.decreases-stretches
decreases-stretches l = length l.rest
