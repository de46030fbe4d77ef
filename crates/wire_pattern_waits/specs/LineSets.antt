-- Sets of call lines, as flags: a row for each role, and in it a flag for each number of a line.
use Rattle.std.specs.Prelude.{ℕ, Bool, false, List, [], slice_index_or}

-- whether the line of this number of the role's script is in the set
unfoldable pub has_line : List (List Bool) → ℕ → ℕ → Bool
has_line rows role line = slice_index_or (slice_index_or rows role []) line false
