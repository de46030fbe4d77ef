-- The trees of which these texts are made: for the contracts of private functions.
use Rattle.std.specs.Prelude.{ℕ, true, List, [], ◌∷◌, map, codes}
use Rattle.serde_json.specs.Data.{Data, boolean, number, unsigned, string, array, object, member, no_members}
use Rattle.serde_json.specs.View.{items_of}
use Rattle.wire_types.specs.declared.Call.{Call}
use Rattle.wire_types.specs.declared.CallEnd.{CallEnd}
use Rattle.wire_types.specs.declared.Value.{Value}
use Rattle.wire_types.specs.declared.Value.TheVariants as value
use Rattle.wire_scripts.specs.Scripts.{Scripts, Process}
use Rattle.wire_scripts.specs.Canonical.{process_text}
use Rattle.wire_words.specs.Words.{end_word, replied_value, value_text, verb_text}
use Rattle.wire_json.specs.Json.{printed}

-- a text as a string
abbrev pub text_data : List ℕ → Data
text_data text = string (map printed text)

abbrev pub strings_data : List (List ℕ) → List Data
strings_data texts = map text_data texts

abbrev pub list_data : List Data → Data
list_data items = array (items_of items)

-- a call whose reply brings nothing, or that has none
abbrev pub bare_data : List ℕ → List ℕ → Data
bare_data reply verb = object (member (codes "reply") (string reply) (member (codes "verb") (string verb) no_members))

-- a call whose reply brings something
abbrev pub valued_data : List ℕ → List ℕ → List ℕ → Data
valued_data reply value verb = object (member (codes "reply") (string reply)
    (member (codes "value") (string value) (member (codes "verb") (string verb) no_members)))

-- a call whose reply brings this
abbrev pub reply_data : Scripts → Value → List ℕ → List ℕ → Data
reply_data scripts value.Nothing reply verb = bare_data reply verb
reply_data scripts value reply verb = valued_data reply (map printed (value_text scripts value)) verb

abbrev pub call_data : Scripts → Call → CallEnd → Data
call_data scripts call end = reply_data scripts (replied_value end) (end_word end) (verb_text call)

abbrev pub calls_data : Scripts → List Call → List CallEnd → List Data
calls_data scripts (call ∷ calls) (end ∷ ends) = call_data scripts call end ∷ calls_data scripts calls ends
calls_data scripts _ _ = []

abbrev pub rank_data : Scripts → Process → List CallEnd → Data
rank_data scripts process ends =
    object (member (codes "calls") (list_data (calls_data scripts process.calls ends))
    (member (codes "proc") (text_data (process_text scripts process)) no_members))

abbrev pub ranks_data : Scripts → List Process → List (List CallEnd) → List Data
ranks_data scripts (process ∷ processes) (row ∷ rows) = rank_data scripts process row ∷ ranks_data scripts processes rows
ranks_data scripts _ _ = []

-- a report: its processes, and how many of them wait
abbrev pub report_data : List Data → ℕ → Data
report_data ranks waiting = object (member (codes "ranks") (list_data ranks) (member (codes "waiting") (number (unsigned waiting)) no_members))

abbrev pub findings_data : List Data → Data
findings_data findings = object (member (codes "findings") (list_data findings) no_members)

-- an unsettled replay: its steps, and its report
abbrev pub unsettled_data : List Data → List Data → ℕ → Data
unsettled_data order ranks waiting =
    object (member (codes "order") (list_data order)
    (member (codes "ranks") (list_data ranks)
    (member (codes "unsettled") (boolean true) (member (codes "waiting") (number (unsigned waiting)) no_members))))
