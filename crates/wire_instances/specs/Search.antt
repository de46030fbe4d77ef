-- A search for the line of a number among lines of an instance's text, each told by the line that it comes from: for
-- private contracts alone.
use Rattle.std.specs.Prelude.{ℕ, zero, suc, List, [], ◌∷◌, Option, Some, None}
use Rattle.wire_instances.specs.declared.search.LineSearch.{LineSearch}

-- a line passes where so many stand before the one that is looked for: where none does, it is found. What is found stays
abbrev pub past_line : (before : ℕ) → (found : Option ℕ) → ℕ → LineSearch
past_line before (Some number) line = record { before = before; found = Some number }
past_line zero None line = record { before = 0; found = Some line }
past_line (suc before) None line = record { before = before; found = None }

-- lines pass in their order
abbrev pub past : LineSearch → List ℕ → LineSearch
past search [] = search
past search (line ∷ lines) = past (past_line search.before search.found line) lines

-- what is found; 0 where nothing is
abbrev pub found_in : LineSearch → ℕ
found_in search = found_or search.found
  where
    found_or : Option ℕ → ℕ
    found_or None = 0
    found_or (Some number) = number
