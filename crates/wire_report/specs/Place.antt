-- Where a call stands in a file, as bytes.
use Rattle.std.specs.Prelude.{ℕ, ◌&&◌, List, ◌++◌, Option, Some, None, codes, decimal, map, nat_le, slice_get}
use Rattle.std.specs.Prelude.{slice_index_or, if◌then◌else◌}
use Rattle.wire_types.specs.declared.CallAt.{CallAt}

-- a byte of a file's name as it is shown: `?` for what isn't printable ASCII, so that no name plays with the terminal
abbrev pub name_byte : ℕ → ℕ
name_byte b = if nat_le 32 b && nat_le b 126 then b else 63

-- the line of a call, by the lines of the calls of its process
abbrev pub row_line : Option (List ℕ) → ℕ → ℕ
row_line None c = 0
row_line (Some lines) c = slice_index_or lines c 0

abbrev pub line_of : List (List ℕ) → CallAt → ℕ
line_of rows call = row_line (slice_get rows call.proc.number) call.call

-- where a call stands, as editors and terminals open it: `early-get.plan:7: `
abbrev pub place_text : List ℕ → List (List ℕ) → CallAt → List ℕ
place_text name rows call = map name_byte name ++ codes ":" ++ decimal (line_of rows call) ++ codes ": "
