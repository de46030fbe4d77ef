-- The text of the findings, as bytes: a line for each of them, and last how many they are.
use Rattle.std.specs.Prelude.{ℕ, ◌+◌, Bool, true, false, List, [], ◌++◌, Option, Some, codes, decimal, length, map}
use Rattle.std.specs.List.{flat_map}
use Rattle.wire_types.specs.declared.Call.{Call}
use Rattle.wire_types.specs.declared.Call.TheVariants.{Put}
use Rattle.wire_types.specs.declared.CallAt.{CallAt}
use Rattle.wire_scripts.specs.Scripts.{Scripts, call_at, text_at}
use Rattle.wire_findings.specs.declared.finding.Finding.{Finding}
use Rattle.wire_findings.specs.declared.finding.Finding.TheVariants.{Rewrite, KeyRace, NameRace}
use Rattle.wire_words.specs.Words.{name_of, call_text}
use Rattle.wire_json.specs.Json.{json_findings}

-- the text of the key that a call puts, empty where it puts none
abbrev pub put_key_text : Scripts → Option Call → List ℕ
put_key_text scripts (Some (Put scope key value)) = text_at scripts.keys key
put_key_text scripts _ = []

-- the first put of a key by its process and number, a later put by its number, and the key
abbrev pub rewrite_text : Scripts → CallAt → CallAt → List ℕ
rewrite_text scripts first later =
    call_text scripts first ++ codes " " ++ decimal (later.call + 1) ++ codes " "
    ++ put_key_text scripts (call_at scripts.processes later.proc.number later.call)

-- two calls, the lower first
abbrev pub pair_text : Scripts → CallAt → CallAt → List ℕ
pair_text scripts lower higher = call_text scripts lower ++ codes " " ++ call_text scripts higher

-- the words of a finding: a race says besides what it is on, a key with its owner, or a name
abbrev pub finding_words : Scripts → Finding → List ℕ
finding_words scripts (Rewrite first later) = codes "rewrite " ++ rewrite_text scripts first later
finding_words scripts (KeyRace lower higher owner key) =
    codes "race " ++ pair_text scripts lower higher ++ codes " key " ++ name_of scripts owner.number ++ codes " " ++ text_at scripts.keys key
finding_words scripts (NameRace lower higher name) = codes "race " ++ pair_text scripts lower higher ++ codes " name " ++ text_at scripts.names name

-- its line
abbrev pub finding_line : Scripts → Finding → List ℕ
finding_line scripts finding = finding_words scripts finding ++ codes "\n"

-- the last line: how many findings there are
abbrev pub count_line : ℕ → List ℕ
count_line count = codes "findings " ++ decimal count ++ codes "\n"

-- all lines, and last how many findings there are
abbrev pub findings_report : Scripts → List Finding → List ℕ
findings_report scripts found = flat_map (finding_line scripts) found ++ count_line (length found)

-- the findings in lines, or as JSON
abbrev pub findings_form : Bool → Scripts → List Finding → List ℕ
findings_form false scripts found = findings_report scripts found
findings_form true scripts found = json_findings (map (finding_words scripts) found)
