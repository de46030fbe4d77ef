use Rattle.std.proofs.Common.{◌-◌}
use Rattle.wire_runs.specs.Plan.{event_of, node_of}
use Rattle.wire_scripts.specs.Planned.{plan_of}
use Rattle.wire_races.specs.Adding.{AddsFindings}
use Rattle.wire_races.specs.KeyRaces.{AreLateBelow}
use Rattle.wire_races.proofs.key_races.add_all_late.Given as goal

abbrev pub invariant-deliveries : goal.invariant-deliveries
invariant-deliveries l = AddsFindings (plan_of l.marked) l.initial.found l.found
    (AreLateBelow (plan_of l.marked) (event_of l.asked.get_now) l.asked.owner.number l.asked.key (node_of (plan_of l.marked) l.asked.get_now.proc.number) l.from)

abbrev pub decreases-deliveries : goal.decreases-deliveries
decreases-deliveries l = l.count - l.from
