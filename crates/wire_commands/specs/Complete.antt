-- Whether every call of a replay succeeds, and which is the first that doesn't.
use Rattle.std.specs.Prelude.{◌≡◌, ◌⊎◌, ℕ, ◌<◌, true, false, List, [], ◌++◌, Option, Some, None, Vec, codes}
use Rattle.std.specs.Prelude.{length, slice_get}
use Rattle.std.specs.declared.alloc.Global.{Global}
use Rattle.wire_types.specs.Outcome.{Ends}
use Rattle.wire_types.specs.declared.CallAt.{CallAt}
use Rattle.wire_types.specs.declared.CallEnd.{CallEnd}
use Rattle.wire_types.specs.declared.CallEnd.TheVariants.{Unreached}
use Rattle.wire_scripts.specs.Scripts.{Scripts, call_at, calls_in}
use Rattle.wire_words.specs.Words.{call_text, end_text, verb_text_in}
use Rattle.wire_core.specs.EndsAfter.{plain_ends}
use Rattle.wire_parallel_run.specs.Collect.{IsCompleteRun}
use Rattle.wire_reader.specs.declared.Size.{Size}
use Rattle.wire_command.specs.declared.ended.Ended.{Ended}
use Rattle.wire_command.specs.declared.ended.Ended.TheVariants.{Clean, Found}
use Rattle.wire_command.specs.Ending.{status_of}
use Rattle.wire_command.specs.Read.{ReadAs}
use Rattle.wire_command.specs.Success.{succeeds}

-- what became of a call, by the numbers of its process and of itself: unreached where the ends don't have it
abbrev pub end_or_none : Option CallEnd → CallEnd
end_or_none None = Unreached
end_or_none (Some end) = end

abbrev pub row_or_none : Option (List CallEnd) → List CallEnd
row_or_none None = []
row_or_none (Some row) = row

abbrev pub end_of : Ends → ℕ → ℕ → CallEnd
end_of ends p n = end_or_none (slice_get (row_or_none (slice_get ends.rows p)) n)

abbrev pub end_at : Ends → CallAt → CallEnd
end_at ends x = end_of ends x.proc.number x.call

-- the process has the call
abbrev pub IsCall : Scripts → CallAt → Type 0
IsCall scripts x = x.call < length (calls_in (slice_get scripts.processes x.proc.number))

-- every call of every process was answered PMIX_SUCCESS
abbrev pub EverySucceeds : Scripts → Ends → Type 0
EverySucceeds scripts ends = (x : CallAt) → IsCall scripts x → succeeds (end_at ends x) ≡ true

-- in process order, and then by its number, one call stands before another
abbrev pub StandsBefore : CallAt → CallAt → Type 0
StandsBefore x y = (x.proc.number < y.proc.number) ⊎ ((x.proc.number ≡ y.proc.number) × (x.call < y.call))

-- this call doesn't succeed, and every one before it does
pub record IsFirstFailure (scripts : Scripts) (ends : Ends) (x : CallAt) : Type 0 where
  pub there : IsCall scripts x
  pub fails : succeeds (end_at ends x) ≡ false
  pub first : (y : CallAt) → IsCall scripts y → StandsBefore y x → succeeds (end_at ends y) ≡ true

-- the line of a call, as a report has it
abbrev pub line_of : Scripts → Ends → CallAt → List ℕ
line_of scripts ends x =
    call_text scripts x ++ codes " " ++ verb_text_in (call_at scripts.processes x.proc.number x.call) ++ codes " "
    ++ end_text scripts (end_at ends x) ++ codes "\n"

-- it is the line of the first call that doesn't succeed
pub record IsFailureLine (scripts : Scripts) (ends : Ends) (line : List ℕ) : Type 0 where
  pub call : CallAt
  pub first : IsFirstFailure scripts ends call
  pub tells : line ≡ line_of scripts ends call

-- that line, or none where every call succeeds
abbrev pub TellsFailure : Scripts → Ends → Option (List ℕ) → Type 0
TellsFailure scripts ends None = EverySucceeds scripts ends
TellsFailure scripts ends (Some line) = IsFailureLine scripts ends line

-- so it is in the plain run, and in every interleaving that can't go on
pub record AlwaysFailsSo (scripts : Scripts) (failure : Option (List ℕ)) : Type 0 where
  pub plainly : TellsFailure scripts (plain_ends scripts) failure
  pub always : (order : List ℕ) (ends : Ends) → IsCompleteRun scripts order ends → TellsFailure scripts ends failure

-- what a replay tells of the calls that ended so: nothing where something is found
abbrev pub TellsCalls : Scripts → Ended → Option (List ℕ) → Type 0
TellsCalls scripts Clean failure = AlwaysFailsSo scripts failure
TellsCalls scripts (Found count) failure = failure ≡ None

-- what was to come read as scripts of which this is told
pub record JudgesCalls (size : Size) (coming : Option (List ℕ)) (ended : Ended) (failure : Option (List ℕ)) : Type 0 where
  pub scripts : Scripts
  pub read : ReadAs size coming scripts
  pub tells : TellsCalls scripts ended failure

-- the bytes of a line, where there is one
abbrev pub line_in : Option (Vec ℕ Global) → Option (List ℕ)
line_in None = None
line_in (Some line) = Some line.items

-- the exit status: 0 where nothing was found and every call succeeds, else 1
abbrev pub complete_status : Ended → Option (Vec ℕ Global) → ℕ
complete_status ended None = status_of ended
complete_status ended (Some line) = 1
