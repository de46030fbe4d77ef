-- What a core is seen as: the scripts that it runs, and the history of its steps.
use Rattle.std.specs.Prelude.{ℕ, List}
use Rattle.wire_runs.specs.Plan.{Plan}
use Rattle.wire_scripts.specs.Scripts.{Scripts}
use Rattle.wire_scripts.specs.Planned.{plan_of}
use Rattle.wire_runs.specs.State.{State}
use Rattle.wire_runs.specs.Step.{run}

pub record Course : Type 0 where
  pub scripts : Scripts
  pub history : List ℕ

-- the plan that it runs
abbrev pub plan_in : Course → Plan
plan_in course = plan_of course.scripts

-- the state to which the history leads
abbrev pub state_of : Course → State
state_of course = run (plan_of course.scripts) course.history
