-- Which live events wait for ever, and what every run comes to where none does.
use Rattle.std.specs.Prelude.{◌↔◌}
use Rattle.wire_runs.specs.Plan.{Plan, Event}
use Rattle.wire_runs.specs.State.{State, IsDone}
use Rattle.wire_runs.specs.Step.{IsEnd, IsReachable}
use Rattle.wire_runs.specs.Order.{Live}
use Rattle.wire_runs.specs.Fate.{Waits, HasFate}

-- y is live, and its fate is to wait: it happens in no run
pub record WaitsForEver (plan : Plan) (y : Event) : Type 0 where
  pub live : Live plan y
  pub waits : HasFate plan y Waits

-- no live event does
abbrev pub NoneWaitsForEver : Plan → Type 0
NoneWaitsForEver plan = (y : Event) → ¬ (WaitsForEver plan y)

-- in each state that a run can reach and in which it can't go on, exactly the live events are done
abbrev pub LiveAreDone : Plan → Type 0
LiveAreDone plan = (s : State) → IsReachable plan s → IsEnd plan s → (y : Event) → IsDone s y ↔ Live plan y
