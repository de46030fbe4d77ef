-- The line and the turn that each event comes from, by the lines of the file.
use Rattle.std.specs.Prelude.{ℕ, suc, List, [], ◌∷◌, ◌++◌, Bool, true, false, slice_get, if◌then◌else◌}
use Rattle.wire_runs.specs.Patterns.{turns}
use Rattle.wire_pattern.specs.Pattern.{Call, Fence, Line, Step, Once, Loop, Pattern}
use Rattle.wire_pattern.specs.Planned.{steps_in}
use Rattle.wire_pattern.specs.Instances.{Cast, cast_of}
use Rattle.wire_size_laws.specs.Stages.{Label}

abbrev pub is_fence : Call → Bool
is_fence (Fence items collect) = true
is_fence _ = false

-- of the events of a call: a fence is two
abbrev pub call_labels : ℕ → ℕ → ℕ → Call → List Label
call_labels i l e call =
    record { step = i; line = l; each = e } ∷ (if is_fence call then record { step = i; line = l; each = e } ∷ [] else [])

-- of those of a turn for e, from line number l on
abbrev pub turn_labels : ℕ → ℕ → ℕ → List Line → List Label
turn_labels i l e [] = []
turn_labels i l e (line ∷ lines) = call_labels i l e line.call ++ turn_labels i (suc l) e lines

abbrev pub loop_labels : ℕ → List Line → List ℕ → List Label
loop_labels i lines [] = []
loop_labels i lines (e ∷ es) = turn_labels i 0 e lines ++ loop_labels i lines es

abbrev pub step_labels : Cast → ℕ → ℕ → Step → List Label
step_labels cast v i (Once line) = call_labels i 0 v line.call
step_labels cast v i (Loop number role mode lines) = loop_labels i lines (turns (cast_of cast) v i role mode)

-- of those of v, from step number i on
abbrev pub steps_labels : Cast → ℕ → ℕ → List Step → List Label
steps_labels cast v i [] = []
steps_labels cast v i (step ∷ steps) = step_labels cast v i step ++ steps_labels cast v (suc i) steps

-- of those of processes of these roles, of which the first is v
abbrev pub rows_labels : Pattern → Cast → ℕ → List ℕ → List (List Label)
rows_labels p cast v [] = []
rows_labels p cast v (role ∷ roles) = steps_labels cast v 0 (steps_in (slice_get p.roles role)) ∷ rows_labels p cast (suc v) roles
