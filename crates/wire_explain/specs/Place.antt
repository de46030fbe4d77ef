-- Where a line of a file stands.
use Rattle.std.specs.Prelude.{ℕ, ◌||◌, Bool, nat_lt, List, [], ◌∷◌, Option, Some, None, if◌then◌else◌, codes}
use Rattle.std.specs.Str.{bytes_eq}
use Rattle.wire_lines.specs.Text.{words_of}
use Rattle.wire_reader.specs.Statements.{Statement, statements}
use Rattle.wire_explain.specs.Quote.{line_at}
use Rattle.wire_explain.specs.declared.line_places.Place.{Place}
use Rattle.wire_explain.specs.declared.line_places.Place.TheVariants.{Opening, InJob, InRank, InLoop}
use Rattle.wire_explain.specs.declared.language.Language.{Language}
use Rattle.wire_explain.specs.declared.language.Language.TheVariants.{Plan, Pattern}

-- the first of some words, empty where there is none
abbrev pub first_in : List (List ℕ) → List ℕ
first_in [] = []
first_in (word ∷ words) = word

-- the words of a line, where there is one
abbrev pub words_in : Option (List ℕ) → List (List ℕ)
words_in (Some line) = words_of line
words_in None = []

-- the words of a line of a file
abbrev pub words_at : List ℕ → ℕ → List (List ℕ)
words_at bytes number = words_in (line_at bytes number)

-- what stands after a line of a plan that begins with this word
abbrev pub place_in_plan : Place → List ℕ → Place
place_in_plan place word = if bytes_eq word (codes "job") then InJob else (if bytes_eq word (codes "rank") then InRank else place)

-- whether a line of a pattern that begins with this word begins a role, or ends a loop
abbrev pub leads_to_role : List ℕ → Bool
leads_to_role word = bytes_eq word (codes "one") || (bytes_eq word (codes "many") || bytes_eq word (codes "end"))

-- what stands after such a line
abbrev pub place_in_pattern : Place → List ℕ → Place
place_in_pattern place word =
    if bytes_eq word (codes "job") then InJob
    else (if leads_to_role word then InRank else (if bytes_eq word (codes "for") then InLoop else place))

-- what stands after a line that begins with this word
abbrev pub place_after : Language → Place → List ℕ → Place
place_after Plan place word = place_in_plan place word
place_after Pattern place word = place_in_pattern place word

-- where the line of this number stands, after these lines
abbrev pub place_from : Language → Place → ℕ → List Statement → Place
place_from language place number [] = place
place_from language place number (line ∷ lines) =
    if nat_lt line.0 number then place_from language (place_after language place (first_in line.1)) number lines else place

abbrev pub place_of : Language → List ℕ → ℕ → Place
place_of language bytes number = place_from language Opening number (statements bytes)
