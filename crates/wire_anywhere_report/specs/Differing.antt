-- The text of the calls whose replies differ between placements, where nothing is found on any of them: in lines or as JSON.
use Rattle.std.specs.Prelude.{ℕ, Bool, true, false, List, [], ◌++◌, codes, decimal, length, map}
use Rattle.std.specs.List.{flat_map}
use Rattle.wire_types.specs.declared.CallAt.{CallAt}
use Rattle.wire_types.specs.declared.OutputFormat.{OutputFormat}
use Rattle.wire_types.specs.declared.Status.{Status}
use Rattle.wire_types.specs.Forms.{has_places, is_json}
use Rattle.wire_scripts.specs.Scripts.{Scripts, text_at}
use Rattle.wire_words.specs.Words.{name_of, status_name}
use Rattle.wire_json.specs.Chains.{call_member, proc_member, verb_member}
use Rattle.wire_json.specs.Json.{quoted, bracketed}
use Rattle.wire_json.specs.Lined.{line_member}
use Rattle.wire_report.specs.GroupedText.{said_call}
use Rattle.wire_report.specs.Place.{line_of, place_text}
use Rattle.wire_anywhere.specs.declared.Differing.{Differing}

-- where the call stands, in a form with places
abbrev pub place_part : (places : Bool) → List ℕ → List (List ℕ) → CallAt → List ℕ
place_part false name rows call = []
place_part true name rows call = place_text name rows call

-- the owner of a key, and the key
abbrev pub key_part : Scripts → ℕ → ℕ → List ℕ
key_part s owner key = codes " key " ++ name_of s owner ++ codes " " ++ text_at s.keys key

-- two replies, and the end of the line
abbrev pub replies_part : Status → Status → List ℕ
replies_part near alone = codes " near " ++ status_name near ++ codes " alone " ++ status_name alone ++ codes "\n"

-- a call, what it asks for, and what it replies beside the owner of the key and alone on its node
abbrev pub differs_words : Scripts → Differing → List ℕ
differs_words s d =
    codes "differs " ++ said_call s d.call ++ key_part s d.owner.number d.key ++ replies_part d.near d.alone

-- its line
abbrev pub differs_line : (places : Bool) → List ℕ → List (List ℕ) → Scripts → Differing → List ℕ
differs_line places name rows s d = place_part places name rows d.call ++ differs_words s d

-- the last line: how many calls there are
abbrev pub differing_count : ℕ → List ℕ
differing_count count = codes "differing " ++ decimal count ++ codes "\n"

-- all lines, below the line of no findings
abbrev pub differing_report : (places : Bool) → List ℕ → List (List ℕ) → Scripts → List Differing → List ℕ
differing_report places name rows s differing =
    codes "findings 0\n" ++ flat_map (differs_line places name rows s) differing ++ differing_count (length differing)

-- the member of the line of a call, in a form with places
abbrev pub line_part : (places : Bool) → List (List ℕ) → CallAt → List ℕ
line_part false rows call = []
line_part true rows call = line_member (line_of rows call)

-- a call as an object: its reply where it is alone on its node, its number, the key and its line, and then its reply beside the owner of the
-- key, the owner, its process and its verb
abbrev pub first_members : (places : Bool) → List (List ℕ) → Scripts → Differing → List ℕ
first_members places rows s d =
    codes "{\"alone\":" ++ quoted (status_name d.alone) ++ codes "," ++ call_member d.call ++ codes ",\"key\":" ++ quoted (text_at s.keys d.key)
    ++ line_part places rows d.call

abbrev pub last_members : Scripts → Differing → List ℕ
last_members s d =
    codes ",\"near\":" ++ quoted (status_name d.near) ++ codes ",\"owner\":" ++ quoted (name_of s d.owner.number)
    ++ (proc_member s d.call ++ verb_member s d.call) ++ codes "}"

abbrev pub json_differs : (places : Bool) → List (List ℕ) → Scripts → Differing → List ℕ
json_differs places rows s d = first_members places rows s d ++ last_members s d

-- the members of the findings and of their groups, of which there are none
abbrev pub none_found : (places : Bool) → List ℕ
none_found false = codes ",\"findings\":[]}\n"
none_found true = codes ",\"findings\":[],\"groups\":[]}\n"

-- all calls as an object
abbrev pub json_differing : (places : Bool) → List (List ℕ) → Scripts → List Differing → List ℕ
json_differing places rows s differing = codes "{\"differs\":" ++ bracketed (map (json_differs places rows s) differing) ++ none_found places

-- the text of these calls in this form
abbrev pub differing_in : (json places : Bool) → List ℕ → List (List ℕ) → Scripts → List Differing → List ℕ
differing_in false places name rows s differing = differing_report places name rows s differing
differing_in true places name rows s differing = json_differing places rows s differing

abbrev pub differing_form : OutputFormat → List ℕ → List (List ℕ) → Scripts → List Differing → List ℕ
differing_form form name rows s differing = differing_in (is_json form) (has_places form) name rows s differing
