-- Texts of several lines in JSON: as one string, and as a list of the strings of their lines.
use Rattle.std.specs.Prelude.{◌≡◌, ◌⊎◌, ⊤, ℕ, ◌<◌, ◌==◌, Bool, true, false, List, [], ◌∷◌, ◌++◌, map, codes, if◌then◌else◌}
use Rattle.std.specs.List.{flat_map}
use Rattle.wire_lines.specs.Text.{pieces_of}
use Rattle.wire_json.specs.Json.{bracketed, escaped_byte, printed, quoted}

-- a byte as it stands in the string of a text: a line feed is a backslash and `n`
abbrev pub text_byte : ℕ → List ℕ
text_byte b = if b == 10 then codes "\\n" else escaped_byte (printed b)

-- a text as one string
abbrev pub text_string : List ℕ → List ℕ
text_string text = codes "\"" ++ flat_map text_byte text ++ codes "\""

-- of each line of a text a string
abbrev pub line_strings : List ℕ → List (List ℕ)
line_strings text = map quoted (pieces_of text)

-- a list of them
abbrev pub lines_list : List ℕ → List ℕ
lines_list text = bracketed (line_strings text)

-- what a string says, from behind its first quote to the next that no backslash stands before. Behind a backslash, `n` is
-- a line feed, and any other byte is itself
abbrev pub string_said : (escaped : Bool) → List ℕ → List ℕ
string_said _ [] = []
string_said true (b ∷ bs) = (if b == 110 then 10 else b) ∷ string_said false bs
string_said false (b ∷ bs) = if b == 34 then [] else (if b == 92 then string_said true bs else b ∷ string_said false bs)

-- each byte is printable, or a line feed
abbrev pub AreOfLines : List ℕ → Type 0
AreOfLines [] = ⊤
AreOfLines (b ∷ bs) = ((b ≡ 10) ⊎ ((31 < b) × (b < 127))) × AreOfLines bs

-- such a text is what its string says, whatever stands behind that
abbrev pub TextsReadBack : Type 0
TextsReadBack = (text rest : List ℕ) → AreOfLines text → string_said false (flat_map text_byte text ++ 34 ∷ rest) ≡ text
