-- The line of each call of a file.
use Rattle.std.specs.Prelude.{◌≡◌, ℕ, List, map, length, Ok}
use Rattle.wire_lines.specs.Text.{lines_of}
use Rattle.wire_reader.specs.declared.limits.Size.{Size}
use Rattle.wire_reader.specs.Statements.{statements}
use Rattle.wire_reader.specs.FirstPass.{Started, Declared, FirstPass}

-- the lines of the calls of a process, in their order
abbrev pub lines_of_calls : Started → List ℕ
lines_of_calls p = map (λ c. c.0) p.calls

-- the numbers of the lines of the calls: a row for each process
abbrev pub lines_in : Declared → List (List ℕ)
lines_in d = map lines_of_calls d.processes

-- what the text declares has its calls on these lines
pub record AreCallLines (size : Size) (bytes : List ℕ) (rows : List (List ℕ)) : Type 0 where
  pub declared : Declared
  pub reads : FirstPass size (statements bytes) (length (lines_of bytes)) (Ok declared)
  pub lines : rows ≡ lines_in declared
