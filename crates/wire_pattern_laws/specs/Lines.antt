-- Of which line of its role's script an event is.
use Rattle.std.specs.Prelude.{◌≡◌, ℕ, suc, ◌+◌, List, [], ◌∷◌, ◌++◌, length, replicate, Some, slice_get}
use Rattle.wire_runs.specs.Plan.{Event}
use Rattle.wire_runs.specs.Patterns.{Line, LineFence, Step, Once, Loop, Pattern, Cast, turns}

-- how many events a line makes
abbrev pub line_size : Line → ℕ
line_size (LineFence items collect) = 2
line_size line = 1

-- of each event of these lines the line's number, the first line being number n
abbrev pub numbers : ℕ → List Line → List ℕ
numbers n [] = []
numbers n (line ∷ lines) = replicate (line_size line) n ++ numbers (suc n) lines

abbrev pub turn_numbers : ℕ → List Line → List ℕ → List ℕ
turn_numbers n lines [] = []
turn_numbers n lines (e ∷ es) = numbers n lines ++ turn_numbers n lines es

abbrev pub step_numbers : Cast → ℕ → (i n : ℕ) → Step → List ℕ
step_numbers cast v i n (Once line) = numbers n (line ∷ [])
step_numbers cast v i n (Loop role mode lines) = turn_numbers n lines (turns cast v i role mode)

-- how many lines a step has
abbrev pub step_lines : Step → ℕ
step_lines (Once line) = 1
step_lines (Loop role mode lines) = length lines

-- of each event of v, from step number i on, whose first line is number n
abbrev pub numbers_from : Cast → ℕ → (i n : ℕ) → List Step → List ℕ
numbers_from cast v i n [] = []
numbers_from cast v i n (step ∷ steps) =
    step_numbers cast v i n step ++ numbers_from cast v (suc i) (n + step_lines step) steps

-- the event is of line number n of the role's script; lines are counted from 0, those in loops too
pub record IsOfLine (pattern : Pattern) (cast : Cast) (x : Event) (role n : ℕ) : Type 0 where
  pub its_role : slice_get cast.roles x.proc ≡ Some role
  pub its_line : slice_get (numbers_from cast x.proc 0 0 (pattern.script role)) x.at ≡ Some n
