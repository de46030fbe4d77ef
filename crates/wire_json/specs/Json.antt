-- The JSON forms of a report, of findings and of an unsettled replay, as bytes: one compact object with its keys in
-- byte order, and a line feed.
use Rattle.std.specs.Prelude.{◌≡◌, ℕ, ⊤, ◌<◌, ◌==◌, ◌&&◌, ◌||◌, nat_lt, List, [], ◌∷◌, ◌++◌, map, flat_map, codes}
use Rattle.std.specs.Prelude.{decimal, if◌then◌else◌}
use Rattle.std.specs.List.{join_with_byte}
use Rattle.wire_types.specs.declared.Call.{Call}
use Rattle.wire_types.specs.declared.CallEnd.{CallEnd}
use Rattle.wire_types.specs.declared.Value.{Value}
use Rattle.wire_types.specs.declared.Value.TheVariants as value
use Rattle.wire_types.specs.Outcome.{Ends}
use Rattle.wire_scripts.specs.Scripts.{Scripts, Process}
use Rattle.wire_scripts.specs.Canonical.{process_text}
use Rattle.wire_words.specs.Words.{end_word, replied_value, value_text, verb_text, name_of}

-- a byte in a string: one that isn't printable, which stands in no word of a file, is a question mark
abbrev pub printed : ℕ → ℕ
printed b = if nat_lt 31 b && nat_lt b 127 then b else 63

-- each of these bytes is printable
abbrev pub ArePrintable : List ℕ → Type 0
ArePrintable [] = ⊤
ArePrintable (b ∷ bs) = (31 < b) × (b < 127) × ArePrintable bs

-- a text of printable bytes stands in a string as it is
abbrev pub PrintableKept : Type 0
PrintableKept = (text : List ℕ) → ArePrintable text → map printed text ≡ text

-- a quote and a backslash have a backslash before them
abbrev pub escaped_byte : ℕ → List ℕ
escaped_byte b = if b == 34 || b == 92 then 92 ∷ b ∷ [] else b ∷ []

abbrev pub escaped : List ℕ → List ℕ
escaped = flat_map escaped_byte

-- a text as a string
abbrev pub quoted : List ℕ → List ℕ
quoted text = codes "\"" ++ escaped (map printed text) ++ codes "\""

-- items with a comma between each two
abbrev pub joined : List (List ℕ) → List ℕ
joined items = join_with_byte 44 items

-- a list of them
abbrev pub bracketed : List (List ℕ) → List ℕ
bracketed items = codes "[" ++ joined items ++ codes "]"

-- the member of what a reply brings, none where it brings nothing
abbrev pub value_member : Scripts → Value → List ℕ
value_member scripts value.Nothing = []
value_member scripts value = codes ",\"value\":" ++ quoted (value_text scripts value)

-- a call: what became of it, and what it is called
abbrev pub json_call : Scripts → Call → CallEnd → List ℕ
json_call scripts call end =
    codes "{\"reply\":\"" ++ end_word end ++ codes "\"" ++ value_member scripts (replied_value end) ++ codes ",\"verb\":\"" ++ verb_text call ++ codes "\"}"

-- calls with their ends, as far as both lists go
abbrev pub json_calls : Scripts → List Call → List CallEnd → List (List ℕ)
json_calls scripts (call ∷ calls) (end ∷ ends) = json_call scripts call end ∷ json_calls scripts calls ends
json_calls scripts _ _ = []

-- a process: its calls, and its job and rank
abbrev pub json_rank : Scripts → Process → List CallEnd → List ℕ
json_rank scripts process ends =
    codes "{\"calls\":" ++ bracketed (json_calls scripts process.calls ends) ++ codes ",\"proc\":" ++ quoted (process_text scripts process) ++ codes "}"

-- processes with their rows, as far as both lists go
abbrev pub json_ranks : Scripts → List Process → List (List CallEnd) → List (List ℕ)
json_ranks scripts (process ∷ processes) (row ∷ rows) = json_rank scripts process row ∷ json_ranks scripts processes rows
json_ranks scripts _ _ = []

-- the member of all processes
abbrev pub ranks_member : Scripts → Ends → List ℕ
ranks_member scripts ends = codes "\"ranks\":" ++ bracketed (json_ranks scripts scripts.processes ends.rows)

-- the member of how many processes wait
abbrev pub waiting_member : Ends → List ℕ
waiting_member ends = codes "\"waiting\":" ++ decimal ends.waiting

-- the report of a replay
abbrev pub json_report : Scripts → Ends → List ℕ
json_report scripts ends = codes "{" ++ ranks_member scripts ends ++ codes "," ++ waiting_member ends ++ codes "}\n"

-- the findings, of each its line
abbrev pub json_findings : List (List ℕ) → List ℕ
json_findings lines = codes "{\"findings\":" ++ bracketed (map quoted lines) ++ codes "}\n"

-- an unsettled replay: the processes of its steps, and its report
abbrev pub json_unsettled : Scripts → Ends → List ℕ → List ℕ
json_unsettled scripts ends order =
    codes "{\"order\":" ++ bracketed (map (λ p. quoted (name_of scripts p)) order) ++ codes "," ++ ranks_member scripts ends ++ codes ",\"unsettled\":true,"
    ++ waiting_member ends ++ codes "}\n"
