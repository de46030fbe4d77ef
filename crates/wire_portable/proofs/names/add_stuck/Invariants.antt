use Rattle.std.proofs.Common.{map}
use Rattle.wire_runs.specs.Plan.{event_of}
use Rattle.wire_scripts.specs.Planned.{plan_of}
use Rattle.wire_portable.specs.Named.{AreNever}
use Rattle.wire_portable.proofs.names.add_stuck.Given as goal

abbrev pub invariant-loop-at : goal.invariant-loop-at
invariant-loop-at l = AreNever (plan_of l.marked) (map event_of l.initial.stuck.items) → AreNever (plan_of l.marked) (map event_of l.stuck.items)
