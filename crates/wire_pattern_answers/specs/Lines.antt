-- The get-now lines of a pattern, and how their answers are told.
use Rattle.std.specs.Prelude.{ℕ, Bool, true, false, not, ◌&&◌, List, [], ◌++◌, filter, flat_map, codes, decimal, slice_get, if◌then◌else◌}
use Rattle.wire_types.specs.declared.Verb.{Verb}
use Rattle.wire_types.specs.declared.Verb.TheVariants as verb
use Rattle.wire_pattern.specs.Pattern.{Pattern}
use Rattle.wire_pattern_waits.specs.declared.CallLine.{CallLine}
use Rattle.wire_pattern_waits.specs.Lines.{call_lines, name_in}
use Rattle.wire_pattern_answers.specs.declared.answers.LineAnswers.{LineAnswers}

abbrev pub is_get_now : Verb → Bool
is_get_now verb.GetNow = true
is_get_now _ = false

-- the call lines that are get-nows
abbrev pub get_now_lines : Pattern → List CallLine
get_now_lines p = filter (λ line. is_get_now line.verb) (call_lines p)

-- a word, where it is to be told
abbrev pub word_if : Bool → List ℕ → List ℕ
word_if told word = if told then word else []

-- whether a line is never answered
abbrev pub is_never : LineAnswers → Bool
is_never answers = not answers.success && (not answers.not_found && not answers.outside)

-- the statuses, or that there are none
abbrev pub statuses_text : LineAnswers → List ℕ
statuses_text answers =
    word_if answers.success (codes " PMIX_SUCCESS") ++ (word_if answers.not_found (codes " PMIX_ERR_NOT_FOUND")
    ++ (word_if answers.outside (codes " PMIX_ERR_EXISTS_OUTSIDE_SCOPE")
    ++ word_if (is_never answers) (codes " none")))

-- with which statuses a get-now line is answered: `answers ROLE LINE get-now STATUS ..`
abbrev pub answers_line : Pattern → LineAnswers → List ℕ
answers_line p answers =
    codes "answers " ++ (name_in (slice_get p.roles answers.line.role) ++ (codes " " ++ (decimal answers.line.number
    ++ (codes " get-now" ++ (statuses_text answers ++ codes "\n")))))

abbrev pub answers_text : Pattern → List LineAnswers → List ℕ
answers_text p all = flat_map (answers_line p) all
