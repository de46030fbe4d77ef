use Rattle.std.proofs.Common.{◌≡◌, ◌++◌, List, length}
use Rattle.wire_scripts.specs.Planned.{plan_of}
use Rattle.wire_races.specs.declared.sweep_races.Share.{Share}
use Rattle.wire_races.specs.Adding.{AddsFindings}
use Rattle.wire_races.specs.SweepRaces.{IsSharedRace}
use Rattle.wire_races.proofs.sweep_races.add_shared.Given as goal

abbrev pub invariant-stretches : goal.invariant-stretches
invariant-stretches l = (done : List Share) × (l.shares ≡ done ++ l.rest) × AddsFindings (plan_of l.marked) l.initial.found l.found (IsSharedRace (plan_of l.marked) l.proc.number done)

abbrev pub decreases-stretches : goal.decreases-stretches
decreases-stretches l = length l.rest
