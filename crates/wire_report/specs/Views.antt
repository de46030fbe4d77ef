-- The lines that tell what shows races, as bytes: how a call ends in two runs, and which races were tried.
use Rattle.std.specs.Prelude.{ℕ, Bool, true, false, List, ◌++◌, Option, Some, None, codes, decimal}
use Rattle.wire_types.specs.declared.CallAt.{CallAt}
use Rattle.wire_types.specs.declared.CallEnd.{CallEnd}
use Rattle.wire_scripts.specs.Scripts.{Scripts, call_at}
use Rattle.wire_words.specs.Words.{call_text, end_text, verb_text_in}
use Rattle.wire_json.specs.declared.witnesses.RaceCounts.{RaceCounts}
use Rattle.wire_json.specs.Witnesses.{json_unshown}
use Rattle.wire_findings.specs.declared.finding.Finding.{Finding}
use Rattle.wire_report.specs.Findings.{finding_line}
use Rattle.wire_report.specs.Unsettled.{order_text}

-- the call that ends differently
abbrev pub shown_line : Scripts → CallAt → List ℕ
shown_line scripts call =
    codes "shown " ++ call_text scripts call ++ codes " " ++ verb_text_in (call_at scripts.processes call.proc.number call.call) ++ codes "\n"

-- how a call ends in a run, behind the word for the run
abbrev pub end_line : List ℕ → Scripts → CallEnd → List ℕ
end_line run scripts end = run ++ end_text scripts end ++ codes "\n"

-- how it ends in each of two runs
abbrev pub both_ends : Scripts → (first second : CallEnd) → List ℕ
both_ends scripts first second = end_line (codes "first ") scripts first ++ end_line (codes "second ") scripts second

-- the orders of two runs
abbrev pub both_orders : Scripts → (first second : List ℕ) → List ℕ
both_orders scripts first second = order_text scripts first ++ order_text scripts second

-- that nothing shows two calls, of which a race is reported or not: in lines, or as JSON
abbrev pub unshown_form : (json race : Bool) → List ℕ
unshown_form false false = codes "no race\n`check` reports no race of these two calls. `why` tells whether a chain orders them.\n"
unshown_form false true = codes "not shown\nNo run that was tried shows this race. Another run may show it all the same.\n"
unshown_form true race = json_unshown race

-- that a race is shown by a call
abbrev pub shown_by : Scripts → CallAt → List ℕ
shown_by scripts call = codes "shown " ++ call_text scripts call ++ codes " "

-- whether it is shown, and by which call
abbrev pub verdict_text : Scripts → Option CallAt → List ℕ
verdict_text scripts (Some call) = shown_by scripts call
verdict_text scripts None = codes "not-shown "

-- the line of a race that was tried: whether it is shown, and what `check` writes of it
abbrev pub tried_line : Scripts → Finding → Option CallAt → List ℕ
tried_line scripts race shown = verdict_text scripts shown ++ finding_line scripts race

-- a number behind its word
abbrev pub count_text : List ℕ → ℕ → List ℕ
count_text word count = word ++ decimal count

-- how many of the races that were tried are shown, and how many aren't
abbrev pub judged_text : RaceCounts → List ℕ
judged_text counts = count_text (codes " shown ") counts.shown ++ count_text (codes " not-shown ") counts.not_shown

-- the last line: how many races there are in all, and how many of them are shown, not shown and not tried
abbrev pub counts_line : RaceCounts → List ℕ
counts_line counts =
    count_text (codes "races ") counts.races ++ judged_text counts ++ count_text (codes " not-tried ") counts.not_tried ++ codes "\n"
