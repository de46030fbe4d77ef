use Rattle.std.proofs.Common.{map}
use Rattle.wire_runs.specs.Plan.{event_of}
use Rattle.wire_scripts.specs.Planned.{plan_of}
use Rattle.wire_anywhere.specs.Carriers.{NoneLacks}
use Rattle.wire_anywhere.proofs.carriers.first_lacking.Given as goal

abbrev pub invariant-loop-event : goal.invariant-loop-event
invariant-loop-event l = NoneLacks (plan_of l.marked) l.asked.owner.number l.asked.key (event_of l.asked.get_now) (map event_of l.list) l.event-index
