use Rattle.std.proofs.Common.{ℕ, ◌<◌, ◌≡◌, Some, map, ◌⊎◌}
use Rattle.std.specs.Prelude.{slice_get}
use Rattle.wire_runs.specs.Plan.{Event, event_of}
use Rattle.wire_scripts.specs.Planned.{plan_of}
use Rattle.wire_runs.specs.Order.{Before}
use Rattle.wire_anywhere.proofs.answered.is_after_some.Given as goal

abbrev pub invariant-loop-x : goal.invariant-loop-x
invariant-loop-x l =
    (k : ℕ) (y : Event) → k < l.x-index → slice_get (map event_of l.stuck) k ≡ Some y → ¬ ((y ≡ event_of l.event) ⊎ Before (plan_of l.marked) y (event_of l.event))
