-- The runs of a program, step by step: it has one without steps, and where a process can take a step after a run, that
-- gives a run again. So the runs are all interleavings of the program.
use Rattle.std.specs.Prelude.{◌≡◌, ℕ, List, [], ◌∷◌, ◌++◌, true}
use Rattle.wire_runs.specs.Plan.{Plan, Event}
use Rattle.wire_runs.specs.State.{start}
use Rattle.wire_runs.specs.Step.{is_enabled, IsInterleaving, run, IsEnd}
use Rattle.wire_runs.specs.Laws.{HasOneEnd}
use Rattle.wire_program_laws.specs.Runs.{IsSameHead}
use Rattle.wire_program_laws.specs.Programs.{Text, Program, IsRunOf}

-- there is a run of the program with these processes and steps
pub record HasRun (program : Program) (head : Plan) (v : List ℕ) : Type 0 where
  pub plan : Plan
  pub text : Event → Text
  pub is_run : IsRunOf program plan text v
  pub same_head : IsSameHead head plan

-- on whatever nodes
abbrev pub RunsStart : Type 0
RunsStart = (program : Program) (head : Plan) → HasRun program head []

abbrev pub RunsGoOn : Type 0
RunsGoOn = (program : Program) (plan : Plan) (text : Event → Text) (v : List ℕ) (p : ℕ) → IsRunOf program plan text v → is_enabled plan (run plan v) p ≡ true
    → HasRun program plan (v ++ p ∷ [])

-- every interleaving of the plan of a complete run, if it has one end, is one of the program
abbrev pub SameInterleavings : Type 0
SameInterleavings = (program : Program) (b : Plan) (other : Event → Text) (w : List ℕ) → HasOneEnd b → IsRunOf program b other w → IsEnd b (run b w)
    → (u : List ℕ) → IsInterleaving b start u → HasRun program b u
