-- What `why` writes: whether one call is before another, and the chain that shows it.
use Rattle.std.specs.Prelude.{◌≡◌, ℕ, Bool, true, false, List, [], Option, Result, Ok, Err, slice_index_or}
use Rattle.wire_types.specs.declared.CallAt.{CallAt}
use Rattle.wire_types.specs.declared.Fault.{Fault}
use Rattle.wire_types.specs.declared.OutputFormat.{OutputFormat}
use Rattle.wire_types.specs.Forms.{has_places, is_json}
use Rattle.wire_scripts.specs.Scripts.{Scripts}
use Rattle.wire_report.specs.Chain.{IsChainText}
use Rattle.wire_reader.specs.declared.Size.{Size}
use Rattle.wire_reader.specs.Question.{QuestionReads}
use Rattle.wire_command.specs.declared.ended.Ended.{Ended}
use Rattle.wire_command.specs.declared.ended.Ended.TheVariants.{Clean}
use Rattle.wire_command.specs.Answer.{Writes}
use Rattle.wire_command.specs.Command.{StopsBeforeCommand}
use Rattle.wire_commands.specs.Chains.{IsPlacedChain}

abbrev pub word_at : List (List ℕ) → ℕ → List ℕ
word_at words n = slice_index_or words n []

-- what the four words of a question name in the scripts
abbrev pub QuestionNames : Scripts → List (List ℕ) → Result (CallAt × CallAt) Fault → Type 0
QuestionNames scripts words named = QuestionReads scripts (word_at words 0) (word_at words 1) (word_at words 2) (word_at words 3) named

-- the text tells the order of two calls, with places or without
abbrev pub TellsChain : (places json : Bool) (name : List ℕ) (rows : List (List ℕ)) → Scripts → CallAt → CallAt → List ℕ → Type 0
TellsChain false json name rows scripts x y text = IsChainText json scripts x y text
TellsChain true json name rows scripts x y text = IsPlacedChain json name rows scripts x y text

-- the text tells the order of two calls in this form
abbrev pub TellsOrder : (form : OutputFormat) (name : List ℕ) (rows : List (List ℕ)) → Scripts → CallAt → CallAt → List ℕ → Type 0
TellsOrder form name rows scripts x y text = TellsChain (has_places form) (is_json form) name rows scripts x y text

-- the words name two calls of the scripts, and the text tells their order. A question finds nothing, so it ends clean
pub record ExplainsOrder (form : OutputFormat) (name : List ℕ) (words : List (List ℕ)) (scripts : Scripts)
    (rows : List (List ℕ)) (text : List ℕ) (ended : Ended) : Type 0 where
  pub x : CallAt
  pub y : CallAt
  pub asks : QuestionNames scripts words (Ok (x, y))
  pub tells : TellsOrder form name rows scripts x y text
  pub ends : ended ≡ Clean

-- all of the answer went out
abbrev pub WritesAnswer : Size → OutputFormat → Option (List ℕ) → (name : List ℕ) (words : List (List ℕ)) (old new : Option (List ℕ)) → Type 0
WritesAnswer size form coming name words old new = (ended : Ended) × Writes size form coming (ExplainsOrder form name words) ended old new

-- why nothing is written: memory ran out, a read failed, the file is refused, or a word of the question is
abbrev pub StopsBeforeAnswer : Size → Option (List ℕ) → List (List ℕ) → Fault → Type 0
StopsBeforeAnswer size coming words = StopsBeforeCommand size coming (λ scripts fault. QuestionNames scripts words (Err fault))
