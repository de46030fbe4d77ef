-- What a file declares is within the limits.
use Rattle.std.specs.Prelude.{◌≡◌, ℕ, ◌+◌, ◌≤◌, List, [], ◌∷◌, length, Ok}
use Rattle.wire_reader.specs.declared.limits.Limits.{Limits}
use Rattle.wire_reader.specs.declared.limits.Size.{Size}
use Rattle.wire_reader.specs.Limits.{largest}
use Rattle.wire_reader.specs.Statements.{Statement}
use Rattle.wire_reader.specs.FirstPass.{Started, Declared, FirstPass}

-- how many calls these processes make
abbrev pub started_calls : List Started → ℕ
started_calls [] = 0
started_calls (p ∷ ps) = length p.calls + started_calls ps

pub record IsWithin (l : Limits) (d : Declared) : Type 0 where
  pub few_ranks : d.ranks ≤ length d.processes
  pub few_processes : length d.processes ≤ l.processes
  pub few_calls : d.calls ≤ l.calls
  pub counted : started_calls d.processes ≡ d.calls

-- within the largest, whatever the size and the version are
abbrev pub IsWithinLimits : Declared → Type 0
IsWithinLimits d = IsWithin largest d

-- what some lines of a file declare
abbrev pub IsDeclared : Declared → Type 0
IsDeclared d = (size : Size) × (lines : List Statement) × (n : ℕ) × FirstPass size lines n (Ok d)
