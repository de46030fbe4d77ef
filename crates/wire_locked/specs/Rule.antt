-- What the type of a core keeps, and so what holds of the core whenever its lock is free.
use Rattle.wire_runs.specs.State.{start}
use Rattle.wire_runs.specs.Step.{IsInterleaving}
use Rattle.wire_core.specs.Course.{Course, plan_in}

-- each step of its history was enabled when it came. Its state is the run of that history, by definition
abbrev pub IsLegal : Course → Type 0
IsLegal course = IsInterleaving (plan_in course) start course.history
