use Rattle.std.proofs.Common.{map}
use Rattle.wire_runs.specs.Plan.{event_of}
use Rattle.wire_scripts.specs.Planned.{plan_of}
use Rattle.wire_anywhere.specs.Answered.{AreStuckTo}
use Rattle.wire_anywhere.proofs.answered.stuck_events.Given as goal

abbrev pub invariant-loop-number : goal.invariant-loop-number
invariant-loop-number l = AreStuckTo (plan_of l.marked) l.number (map event_of l.stuck.items)
