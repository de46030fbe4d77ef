-- The report of a replay, as bytes: what became of every call, a line for each, and how many processes wait.
use Rattle.std.specs.Prelude.{ℕ, Bool, true, false, ◌+◌, List, [], ◌∷◌, ◌++◌, codes, decimal}
use Rattle.wire_types.specs.declared.Call.{Call}
use Rattle.wire_types.specs.declared.CallEnd.{CallEnd}
use Rattle.wire_types.specs.Outcome.{Ends}
use Rattle.wire_scripts.specs.Scripts.{Scripts, Process}
use Rattle.wire_scripts.specs.Canonical.{process_text}
use Rattle.wire_words.specs.Words.{verb_text, end_text}
use Rattle.wire_json.specs.Json.{json_report}

-- the line of a process's call number n
abbrev pub call_line : Scripts → Process → ℕ → Call → CallEnd → List ℕ
call_line scripts process n call end =
    process_text scripts process ++ codes " " ++ decimal n ++ codes " " ++ verb_text call ++ codes " " ++ end_text scripts end ++ codes "\n"

-- the lines of these calls of a process, the first of them its number n, as far as both lists go
abbrev pub lines_from : Scripts → Process → ℕ → List Call → List CallEnd → List ℕ
lines_from scripts process n (call ∷ calls) (end ∷ ends) =
    call_line scripts process n call end ++ lines_from scripts process (n + 1) calls ends
lines_from scripts process n _ _ = []

-- the lines of a process
abbrev pub process_lines : Scripts → Process → List CallEnd → List ℕ
process_lines scripts process ends = lines_from scripts process 1 process.calls ends

-- the lines of these processes, each with its row, as far as both lists go
abbrev pub all_lines : Scripts → List Process → List (List CallEnd) → List ℕ
all_lines scripts (process ∷ processes) (row ∷ rows) = process_lines scripts process row ++ all_lines scripts processes rows
all_lines scripts _ _ = []

-- all lines, and last how many processes wait
abbrev pub report : Scripts → Ends → List ℕ
report scripts ends = all_lines scripts scripts.processes ends.rows ++ codes "waiting " ++ decimal ends.waiting ++ codes "\n"

-- the report in lines, or as JSON
abbrev pub report_form : Bool → Scripts → Ends → List ℕ
report_form false scripts ends = report scripts ends
report_form true scripts ends = json_report scripts ends
