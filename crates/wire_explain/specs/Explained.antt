-- What is told of the fault of a plan or a pattern.
use Rattle.std.specs.Prelude.{◌≡◌, ℕ, Bool, List, [], ◌++◌, map, unwrap_or, Option, Some, None, codes, if◌then◌else◌}
use Rattle.std.specs.List.{list_all}
use Rattle.wire_types.specs.declared.Fault.{Fault}
use Rattle.wire_types.specs.declared.Fault.TheVariants.{Memory, TooLong, BadHeader, BadLine, UnknownName, Twice}
use Rattle.wire_types.specs.declared.Fault.TheVariants.{NotMember}
use Rattle.wire_types.specs.declared.Fault.TheVariants.{TooMany, Workers, Read, Write, NotReady, BadOrder}
use Rattle.wire_lines.specs.Said.{is_word_byte}
use Rattle.wire_explain.specs.Hint.{IsHintFor, doubtful, known}
use Rattle.wire_explain.specs.Format.{usage_of}
use Rattle.wire_explain.specs.Quote.{shown_byte, quoted, labelled}
use Rattle.wire_explain.specs.Place.{first_in, words_at, place_of}
use Rattle.wire_explain.specs.declared.line_places.Place.{Place}
use Rattle.wire_explain.specs.declared.line_places.Place.TheVariants.{Opening, InJob, InRank, InLoop}
use Rattle.wire_explain.specs.declared.language.Language.{Language}
use Rattle.wire_explain.specs.declared.language.Language.TheVariants.{Plan, Pattern}

-- the line of a file that a fault names
abbrev pub plan_line : Fault → Option ℕ
plan_line (TooLong line) = Some line
plan_line (BadHeader line) = Some line
plan_line (BadLine line) = Some line
plan_line (UnknownName line) = Some line
plan_line (Twice line) = Some line
plan_line (NotMember line) = Some line
plan_line (TooMany line) = Some line
plan_line _ = None

-- what may stand at a place of a plan
abbrev pub expected_in_plan : Place → List ℕ
expected_in_plan Opening = codes "'node NAME' or 'job NAME', or 'keep' right below 'rehearsal 2'"
expected_in_plan InJob = codes "'rank NODE' or 'job NAME'"
expected_in_plan InRank = codes "a call of this rank, 'rank NODE' or 'job NAME'"
expected_in_plan InLoop = codes "a call of this rank, 'rank NODE' or 'job NAME'"

-- and of a pattern
abbrev pub expected_in_pattern : Place → List ℕ
expected_in_pattern Opening = codes "'job NAME', or 'keep' right below 'pattern 1'"
expected_in_pattern InJob = codes "'one NAME', 'many NAME' or 'job NAME'"
expected_in_pattern InRank = codes "a call, 'for ROLES', 'one NAME', 'many NAME' or 'job NAME'"
expected_in_pattern InLoop = codes "a call that a loop may have, or 'end'"

abbrev pub expected_at : Language → Place → List ℕ
expected_at Plan place = expected_in_plan place
expected_at Pattern place = expected_in_pattern place

-- of two texts the one of a language
abbrev pub by_language : Language → (plan pattern : List ℕ) → List ℕ
by_language Plan plan pattern = plan
by_language Pattern plan pattern = pattern

-- whether each byte of these words may stand in a word
abbrev pub are_ascii : List (List ℕ) → Bool
are_ascii words = list_all (λ word. list_all is_word_byte word) words

-- what was expected of a line that isn't one of the format, or stands in the wrong place: other bytes, the line of its
-- first word, or what may stand there
abbrev pub expected_line : Language → List ℕ → ℕ → List ℕ
expected_line language bytes line =
    if are_ascii (words_at bytes line) then unwrap_or (usage_of language (first_in (words_at bytes line))) (expected_at language (place_of language bytes line))
    else codes "only printable ASCII in words"

-- how long words, values and files may be
abbrev pub expected_lengths : Language → List ℕ
expected_lengths language = by_language language
    (codes "names and keys of at most 63 bytes, values of at most 255, and a file within its size limit")
    (codes "names and keys (with their index) of at most 63 bytes, values of at most 255, and a file within its size limit")

-- how much there may be
abbrev pub expected_limits : Language → List ℕ
expected_limits language = by_language language
    (codes "no more nodes, jobs, ranks or calls than the limits (with --large, which 'witness' doesn't take, they are larger)")
    (codes "no more jobs, roles, groups, roles in a list or turns of 'for some' than a pattern may have, and instances within the limits of plans")

-- how the first line is written
abbrev pub expected_header : Language → List ℕ
expected_header language = by_language language
    (codes "'rehearsal 1' or 'rehearsal 2', before all other lines")
    (codes "'pattern 1', before all other lines")

-- which names may stand once
abbrev pub expected_once : Language → List ℕ
expected_once language = by_language language
    (codes "a name that no earlier line of this kind has")
    (codes "a name that no earlier line of this kind has, and in a list each role once")

-- which names may be told of
abbrev pub expected_names : Language → List ℕ
expected_names language = by_language language
    (codes "a node, a job or a rank that the file declares")
    (codes "a job or a role that the file declares")

-- what was expected, where a file has this fault
abbrev pub expected : Language → List ℕ → Fault → List ℕ
expected language bytes Memory = codes "more memory"
expected language bytes (TooLong line) = expected_lengths language
expected language bytes (BadHeader line) = expected_header language
expected language bytes (BadLine line) = expected_line language bytes line
expected language bytes (UnknownName line) = expected_names language
expected language bytes (Twice line) = expected_once language
expected language bytes (NotMember line) = codes "a set with the rank that calls the fence"
expected language bytes (TooMany line) = expected_limits language
expected language bytes Workers = codes "1 to 64 workers"
expected language bytes Read = codes "a file that can be opened and read"
expected language bytes (Write count) = codes "an output that can be written"
expected language bytes (NotReady step) = codes "a rank that can take its next step"
expected language bytes (BadOrder place) = codes "a rank of the plan, such as app:0"

-- the lines: the line at fault, what was expected, and the nearest word
abbrev pub line_part : List ℕ → Option ℕ → List ℕ
line_part bytes (Some line) = quoted bytes line
line_part bytes None = []

abbrev pub hint_part : Option (List ℕ) → List ℕ
hint_part (Some word) = labelled (codes "  nearest word: ") word
hint_part None = []

abbrev pub explanation : Language → List ℕ → Fault → Option (List ℕ) → List ℕ
explanation language bytes fault hint =
    line_part bytes (plan_line fault) ++ labelled (codes "  expected: ") (expected language bytes fault) ++ hint_part hint

-- a text explains the fault of a file, with the nearest of the words that may be meant; each byte is shown
pub record Explains (language : Language) (bytes : List ℕ) (fault : Fault) (text : List ℕ) : Type 0 where
  pub hint : Option (List ℕ)
  pub nearest : IsHintFor (known language bytes fault) (doubtful bytes fault) hint
  pub is : text ≡ map shown_byte (explanation language bytes fault hint)
