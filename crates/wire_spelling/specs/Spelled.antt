-- What the lines of a text say, and the sets that are read so far: for the contracts of private functions.
use Rattle.std.specs.Prelude.{◌≡◌, ℕ, List, ◌∷◌, ◌++◌, Option, None, option_map}
use Rattle.std.specs.Str.Lines.{strip_carriage_return}
use Rattle.std.specs.Borrow.{Bor}
use Rattle.wire_lines.specs.Text.{words_of}
use Rattle.wire_spelling.specs.Spelling.{SaidOfCalls, SpelledSet, CallRows}
use Rattle.wire_spelling.specs.Spelling as spec
use Rattle.wire_spelling.specs.declared.spelled.Said.{Said as CodeSaid}
use Rattle.wire_spelling.specs.declared.spelled.Said.TheVariants.{Nothing, Rank, Job, Call}
use Rattle.wire_spelling.specs.declared.spelled.SpelledSet.{SpelledSet as CodeSet}

abbrev pub word_by : Option (Bor (List ℕ)) → Option (List ℕ)
word_by word = option_map (λ w. w.now) word

abbrev pub said_by : CodeSaid → SaidOfCalls
said_by Nothing = spec.Nothing
said_by Rank = spec.Rank
said_by (Job name) = spec.Job name.now
said_by (Call set) = spec.Call (word_by set)

abbrev pub set_by : CodeSet → SpelledSet
set_by spelled = record { job = spelled.job.now; set = spelled.set.now }

-- each line that begins with this byte is a call, and not one of a fence
abbrev pub BeginsPlainCall : ℕ → Type 0
BeginsPlainCall b = (bs : List ℕ) → spec.said_of (words_of (strip_carriage_return (b ∷ bs))) ≡ spec.Call None

-- what is read so far: the job, the rows that are done, and the one that isn't
pub record Progress : Type 0 where
  pub job : List ℕ
  pub done : List (List (Option SpelledSet))
  pub row : List (Option SpelledSet)

-- all rows, given the calls that come behind
abbrev pub joined : Progress → CallRows → List (List (Option SpelledSet))
joined now behind = now.done ++ (now.row ++ behind.before) ∷ behind.rows

-- the rows, and in front of them what comes before
abbrev pub all_rows : CallRows → List (List (Option SpelledSet))
all_rows calls = calls.before ∷ calls.rows
