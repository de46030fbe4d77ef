-- Which word of a line may be misspelt, and which words may be meant.
use Rattle.std.specs.Prelude.{ℕ, List, [], ◌∷◌, Option, Some, None, codes, slice_get, unwrap_or, if◌then◌else◌}
use Rattle.std.specs.List.{list_any}
use Rattle.std.specs.Str.{bytes_eq}
use Rattle.wire_types.specs.declared.Fault.{Fault}
use Rattle.wire_types.specs.declared.Fault.TheVariants.{BadHeader, BadLine}
use Rattle.wire_explain.specs.Format.{choice_place, choices}
use Rattle.wire_explain.specs.declared.language.Language.{Language}
use Rattle.wire_explain.specs.declared.language.Language.TheVariants.{Plan, Pattern}
use Rattle.wire_explain.specs.Near.{IsHint}
use Rattle.wire_explain.specs.Place.{first_in, words_at}

-- the word that may be misspelt: the first of a header, and in another line the one at the place of a choice
abbrev pub doubtful : List ℕ → Fault → Option (List ℕ)
doubtful bytes (BadHeader line) = slice_get (words_at bytes line) 0
doubtful bytes (BadLine line) = slice_get (words_at bytes line) (choice_place (first_in (words_at bytes line)))
doubtful bytes _ = None

-- the first word of a file
abbrev pub header_word : Language → List ℕ
header_word Plan = codes "rehearsal"
header_word Pattern = codes "pattern"

-- the words that the language has there
abbrev pub known : Language → List ℕ → Fault → List (List ℕ)
known language bytes (BadHeader line) = header_word language ∷ []
known language bytes (BadLine line) = choices language (first_in (words_at bytes line))
known language bytes _ = []

-- the words that may be meant: none where there is no word, or one that the format has there
abbrev pub meant : List (List ℕ) → Option (List ℕ) → List (List ℕ)
meant words None = []
meant words (Some word) = if list_any (bytes_eq word) words then [] else words

-- the nearest of them, if one is near
abbrev pub IsHintFor : List (List ℕ) → Option (List ℕ) → Option (List ℕ) → Type 0
IsHintFor words word hint = IsHint (unwrap_or word []) (meant words word) hint
