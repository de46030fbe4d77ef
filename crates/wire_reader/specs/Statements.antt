-- The lines of a text that say something, each with its number.
use Rattle.std.specs.Prelude.{ℕ, ◌+◌, ◌==◌, Bool, true, List, [], ◌∷◌, slice_index, if◌then◌else◌}
use Rattle.wire_lines.specs.Text.{lines_of, words_of}

-- a number of a line, and its words
abbrev pub Statement : Type 0
Statement = ℕ × List (List ℕ)

-- no words, or a first word that begins with `#`
abbrev pub is_skipped : List (List ℕ) → Bool
is_skipped [] = true
is_skipped (first ∷ others) = slice_index first 0 == 35

-- the lines that aren't skipped, where the first of all has the number n
abbrev pub statements_from : ℕ → List (List ℕ) → List Statement
statements_from n [] = []
statements_from n (line ∷ lines) =
    if is_skipped (words_of line) then statements_from (n + 1) lines else (n, words_of line) ∷ statements_from (n + 1) lines

abbrev pub statements : List ℕ → List Statement
statements bytes = statements_from 1 (lines_of bytes)
