-- Stages: an order of the lines of a pattern, and of the turns of its loops, in which no rank waits for what comes later.
use Rattle.std.specs.Prelude.{◌≡◌, ℕ, suc, ◌<◌, ◌⊎◌, List, [], ◌∷◌, ◌++◌, Bool, true, false, Option, Some, slice_get, nat_lt, if◌then◌else◌}
use Rattle.wire_runs.specs.Plan.{Event, Kind, Leave, kind}
use Rattle.wire_runs.specs.Order.{Edge}
use Rattle.wire_runs.specs.Races.{IsSettled}
use Rattle.wire_runs.specs.Patterns.{Line, LineFence, Step, Once, Loop, Pattern, Coding, Cast, turns, instance_of, IsLawful, IsCastOf}
use Rattle.wire_runs.specs.Restrictions.{script_in}
use Rattle.wire_pattern_laws.specs.Ordered.{HasRolesInOrder, HasLeast, HasMost, AllowThree}
use Rattle.wire_size_laws.specs.Answered.{WaitsForOne, IsAnswered}

-- where an event comes from: the step of its role's script, the line of that step, and the process whose turn it is, the
-- caller itself outside loops
pub record Label : Type 0 where
  pub step : ℕ
  pub line : ℕ
  pub each : ℕ

-- of the events of a turn for e, from line number l on
abbrev pub turn_labels : ℕ → ℕ → ℕ → List Line → List Label
turn_labels i l e [] = []
turn_labels i l e (LineFence items collect ∷ lines) =
    record { step = i; line = l; each = e } ∷ (record { step = i; line = l; each = e } ∷ turn_labels i (suc l) e lines)
turn_labels i l e (line ∷ lines) = record { step = i; line = l; each = e } ∷ turn_labels i (suc l) e lines

abbrev pub loop_labels : ℕ → List Line → List ℕ → List Label
loop_labels i lines [] = []
loop_labels i lines (e ∷ es) = turn_labels i 0 e lines ++ loop_labels i lines es

abbrev pub step_labels : Cast → ℕ → ℕ → Step → List Label
step_labels cast v i (Once line) = turn_labels i 0 v (line ∷ [])
step_labels cast v i (Loop role mode lines) = loop_labels i lines (turns cast v i role mode)

abbrev pub labels_from : Cast → ℕ → ℕ → List Step → List Label
labels_from cast v i [] = []
labels_from cast v i (step ∷ steps) = step_labels cast v i step ++ labels_from cast v (suc i) steps

-- of the events of p
abbrev pub labels_of : Pattern → Cast → ℕ → List Label
labels_of pattern cast p = labels_from cast p 0 (script_in pattern (slice_get cast.roles p))

-- by which process the turns of a stage come in order: by none, the caller, the one whose turn it is, or the lower or the
-- higher of these two
pub data By : Type 0 where
  ByNone : By
  ByCaller : By
  ByOther : By
  ByLower : By
  ByHigher : By

abbrev pub counted : By → ℕ → ℕ → ℕ
counted ByNone v e = 0
counted ByCaller v e = suc v
counted ByOther v e = suc e
counted ByLower v e = suc (if nat_lt v e then v else e)
counted ByHigher v e = suc (if nat_lt v e then e else v)

-- the stage of a line; by which processes the turns of this stage come in order; and the position of the line in a turn
pub record Stage : Type 0 where
  pub stage : ℕ
  pub first : By
  pub second : By
  pub position : ℕ

-- of each role, step and line its stage, and that of leaving its fence
abbrev pub Stages : Type 0
Stages = ℕ → ℕ → ℕ → Bool → Stage

pub record StageKey : Type 0 where
  pub one : ℕ
  pub two : ℕ
  pub three : ℕ
  pub four : ℕ

abbrev pub key_at : Stage → ℕ → ℕ → StageKey
key_at s v e = record { one = s.stage; two = counted s.first v e; three = counted s.second v e; four = s.position }

abbrev pub is_leave : Option Kind → Bool
is_leave (Some (Leave members)) = true
is_leave _ = false

abbrev pub key_in : Stages → Option ℕ → Option Label → Bool → ℕ → StageKey
key_in stages (Some role) (Some l) leave v = key_at (stages role l.step l.line leave) v l.each
key_in stages _ _ leave v = record { one = 0; two = 0; three = 0; four = 0 }

-- the key of an event of an instance
abbrev pub key_of : Stages → Pattern → Coding → Cast → Event → StageKey
key_of stages pattern coding cast x =
    key_in stages (slice_get cast.roles x.proc) (slice_get (labels_of pattern cast x.proc) x.at) (is_leave (kind (instance_of pattern coding cast) x)) x.proc

-- keys by their first number that differs
abbrev pub IsLess : StageKey → StageKey → Type 0
IsLess k l = (k.one < l.one) ⊎ ((k.one ≡ l.one) × ((k.two < l.two) ⊎ ((k.two ≡ l.two) × ((k.three < l.three) ⊎ ((k.three ≡ l.three) × (k.four < l.four))))))

-- in the instance no key of a process is less than an earlier one, and what an event waits for has a lesser key, or is
-- earlier in its process
pub record IsStaged (stages : Stages) (pattern : Pattern) (coding : Coding) (cast : Cast) : Type 0 where
  pub along : (x y : Event) (k l : Kind) → kind (instance_of pattern coding cast) x ≡ Some k → kind (instance_of pattern coding cast) y ≡ Some l
      → x.proc ≡ y.proc → x.at < y.at
      → IsLess (key_of stages pattern coding cast x) (key_of stages pattern coding cast y) ⊎ (key_of stages pattern coding cast x ≡ key_of stages pattern coding cast y)
  pub across : (x y : Event) → Edge (instance_of pattern coding cast) x y
      → IsLess (key_of stages pattern coding cast x) (key_of stages pattern coding cast y) ⊎ ((x.proc ≡ y.proc) × (x.at < y.at))

-- what is judged: every call is answered, each lookup-wait is of a name that is published once, and keys rise
pub record IsStagedWell (stages : Stages) (pattern : Pattern) (coding : Coding) (cast : Cast) : Type 0 where
  pub answered : IsAnswered (instance_of pattern coding cast)
  pub one : WaitsForOne (instance_of pattern coding cast)
  pub staged : IsStaged stages pattern coding cast

-- where this is so of the small instances in the order of the roles, with at least three allowed of each role, and all
-- instances in order are settled, every call of every such instance is answered, with any number of processes of each
-- role, on any nodes
abbrev pub StagedAnswered : Type 0
StagedAnswered = (stages : Stages) (pattern : Pattern) (coding : Coding) (bound : ℕ) (least most : ℕ → ℕ) → IsLawful pattern
    → AllowThree bound least most
    → ((cast : Cast) → IsCastOf pattern cast → HasRolesInOrder bound cast → HasLeast bound least cast → IsSettled (instance_of pattern coding cast))
    → ((cast : Cast) → IsCastOf pattern cast → HasRolesInOrder bound cast → HasLeast bound least cast → HasMost bound most cast → IsStagedWell stages pattern coding cast)
    → (cast : Cast) → IsCastOf pattern cast → HasRolesInOrder bound cast → HasLeast bound least cast → IsAnswered (instance_of pattern coding cast)
