-- How a line of a file is quoted.
use Rattle.std.specs.Prelude.{ℕ, ◌-◌, ◌==◌, ◌||◌, ◌&&◌, Bool, nat_le, nat_lt, List, ◌++◌, length}
use Rattle.std.specs.Prelude.{take, Option, Some, None, codes, decimal, slice_get, if◌then◌else◌}
use Rattle.std.specs.List.{list_all}
use Rattle.wire_lines.specs.Text.{lines_of}

-- a byte that a terminal shows as it is, or a line feed
abbrev pub is_printable : ℕ → Bool
is_printable byte = (byte == 10) || (nat_le 32 byte && nat_le byte 126)

-- any other is shown as `?`
abbrev pub shown_byte : ℕ → ℕ
shown_byte byte = if is_printable byte then byte else 63

-- the text has only such bytes
abbrev pub is_printable_text : List ℕ → Bool
is_printable_text text = list_all is_printable text

-- how many bytes of a line are shown
abbrev pub shown_bytes : ℕ
shown_bytes = 120

-- so many bytes of a line at most; two dots tell that there is more
abbrev pub front_of : ℕ → List ℕ → List ℕ
front_of most line = if nat_lt most (length line) then take most line ++ codes ".." else line

-- the line of this number, counted from 1
abbrev pub line_at : List ℕ → ℕ → Option (List ℕ)
line_at bytes number = slice_get (lines_of bytes) (number - 1)

-- how it is shown
abbrev pub quoted_line : Option (List ℕ) → List ℕ
quoted_line (Some line) = front_of shown_bytes line
quoted_line None = codes "(the file ends here)"

-- the line of this number, with the number before it
abbrev pub quoted : List ℕ → ℕ → List ℕ
quoted bytes number = codes "  " ++ decimal number ++ codes " | " ++ quoted_line (line_at bytes number) ++ codes "\n"

-- a line of two parts
abbrev pub labelled : List ℕ → List ℕ → List ℕ
labelled label text = label ++ text ++ codes "\n"
