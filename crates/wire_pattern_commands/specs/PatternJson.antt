-- What `check --pattern` writes as JSON, as bytes: one compact object with its keys in byte order, and a line feed.
use Rattle.std.specs.Prelude.{ℕ, Bool, List, [], ◌++◌, map, codes, decimal, length, if◌then◌else◌}
use Rattle.wire_scripts.specs.Scripts.{Scripts}
use Rattle.wire_findings.specs.declared.finding.Finding.{Finding}
use Rattle.wire_report.specs.Findings.{finding_words}
use Rattle.wire_json.specs.Json.{bracketed, quoted}
use Rattle.wire_pattern.specs.Pattern.{Pattern}
use Rattle.wire_pattern_waits.specs.declared.lines.CallLine.{CallLine}
use Rattle.wire_pattern_waits.specs.Lines.{waits_text}
use Rattle.wire_pattern_answers.specs.declared.answers.LineAnswers.{LineAnswers}
use Rattle.wire_pattern_answers.specs.Lines.{answers_text}
use Rattle.wire_pattern_commands.specs.AtLeast.{least_text}
use Rattle.wire_pattern_commands.specs.declared.beyond.Beyond.{Beyond}
use Rattle.wire_pattern_commands.specs.declared.beyond.Beyond.TheVariants.{Never, Unknown}
use Rattle.wire_pattern_commands.specs.Beyond.{answered_words, first_text}
use Rattle.wire_pattern_commands.specs.Strings.{lines_list, text_string}

-- the member of which instances the statuses are of
abbrev pub scope_member : Bool → List ℕ
scope_member exact =
    if exact then codes ",\"answers_for\":\"every number of ranks\"," else codes ",\"answers_for\":\"the instances that are judged\","

-- the members of how each get-now is answered, where that is asked for
abbrev pub answers_member : (asked exact : Bool) → Pattern → List LineAnswers → List ℕ
answers_member asked exact p answers =
    if asked then codes "\"answers\":" ++ (lines_list (answers_text p answers) ++ scope_member exact) else []

-- the member that says of which instances every call is known to be answered
abbrev pub answered_by : Pattern → Beyond → List ℕ
answered_by p beyond = codes "\"answered\":\"" ++ (answered_words p beyond ++ codes "\",")

-- the same where it is known of some
abbrev pub answered_member : Pattern → Beyond → List ℕ
answered_member p Never = answered_by p Never
answered_member p Unknown = answered_by p Unknown
answered_member p _ = []

-- each line that tells where something waits with more ranks, and each that tells a least number
abbrev pub sizes_members : Pattern → Beyond → List ℕ
sizes_members p beyond = lines_list (first_text p beyond) ++ (codes ",\"least\":" ++ lines_list (least_text p))

-- that nothing is found, of which instances every call is answered, if that is asked for how each get-now is, the lines
-- about numbers of ranks, and each that tells where something waits
abbrev pub json_settled : Bool → Beyond → Bool → Pattern → List CallLine → List LineAnswers → List ℕ
json_settled asked beyond exact p lines answers =
    (codes "{" ++ answered_member p beyond) ++ (answers_member asked exact p answers
    ++ (codes "\"findings\":[],\"for\":\"every number of ranks on every placement\",\"later\":" ++ (sizes_members p beyond
    ++ (codes ",\"waits\":" ++ (lines_list (waits_text p lines) ++ codes "}\n")))))

-- a finding: its words
abbrev pub finding_string : Scripts → Finding → List ℕ
finding_string scripts finding = quoted (finding_words scripts finding)

-- how many ranks it was found with, and the end
abbrev pub ranks_end : Scripts → List ℕ
ranks_end scripts = codes ",\"ranks\":" ++ (decimal (length scripts.processes) ++ codes "}\n")

-- an instance in which something is found: the text of its plan as one string, its findings, and how many ranks it has
abbrev pub json_counterexample : List ℕ → Scripts → List Finding → List ℕ
json_counterexample text scripts found =
    codes "{\"counterexample\":" ++ (text_string text
    ++ (codes ",\"findings\":" ++ (bracketed (map (finding_string scripts) found) ++ ranks_end scripts)))
