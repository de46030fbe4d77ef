-- What became of every call after a history, and where the plain run can't go on.
use Rattle.std.specs.Prelude.{ℕ, List}
use Rattle.wire_types.specs.Outcome.{Ends}
use Rattle.wire_scripts.specs.Scripts.{Scripts}
use Rattle.wire_scripts.specs.Planned.{plan_of}
use Rattle.wire_runs.specs.Step.{run}
use Rattle.wire_runs.specs.PlainRun.{plain_run}
use Rattle.wire_runs.specs.Ends.{outcome}

-- what became of every call after this history
abbrev pub ends_after : Scripts → List ℕ → Ends
ends_after scripts history = outcome (plan_of scripts) (run (plan_of scripts) history)

-- what became of every call where the plain run can't go on
abbrev pub plain_ends : Scripts → Ends
plain_ends scripts = ends_after scripts (plain_run (plan_of scripts))
