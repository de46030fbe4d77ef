-- The members of `check --portable --json` behind those of the findings: the libraries for which no call is blamed, and an
-- object for each call and rule.
use Rattle.std.specs.Prelude.{ℕ, Bool, true, false, List, [], ◌++◌, codes, map}
use Rattle.wire_types.specs.declared.CallAt.{CallAt}
use Rattle.wire_scripts.specs.Scripts.{Scripts}
use Rattle.wire_json.specs.Chains.{call_member, proc_member, verb_member}
use Rattle.wire_json.specs.Json.{quoted, bracketed}
use Rattle.wire_json.specs.Lined.{line_member}
use Rattle.wire_report.specs.Place.{line_of}
use Rattle.wire_portable.specs.declared.libraries.Libraries.{Libraries}
use Rattle.wire_portable.specs.declared.listed.Unportable.{Unportable}
use Rattle.wire_portable_commands.specs.Words.{names_of, portable_in, rule_word}

-- the names of libraries, as a list
abbrev pub names_json : Libraries → List ℕ
names_json set = bracketed (map quoted (names_of set))

-- the member of a call's line, in a form with places
abbrev pub line_part : (places : Bool) → List (List ℕ) → CallAt → List ℕ
line_part false rows call = []
line_part true rows call = line_member (line_of rows call)

-- a call and the rule by which it is blamed
abbrev pub json_first : (places : Bool) → List (List ℕ) → Unportable → List ℕ
json_first places rows line =
    codes "{" ++ call_member line.call ++ codes ",\"libraries\":" ++ names_json line.libraries ++ line_part places rows line.call

abbrev pub json_last : Scripts → Unportable → List ℕ
json_last s line =
    proc_member s line.call ++ codes ",\"rule\":" ++ quoted (rule_word line.rule) ++ verb_member s line.call ++ codes "}"

abbrev pub json_unportable : (places : Bool) → List (List ℕ) → Scripts → Unportable → List ℕ
json_unportable places rows s line = json_first places rows line ++ json_last s line

-- the last members of the object, and its end
abbrev pub portable_member : List Unportable → List ℕ
portable_member lines = codes ",\"portable\":" ++ names_json (portable_in lines)

abbrev pub calls_member : List (List ℕ) → List ℕ
calls_member calls = codes ",\"unportable\":" ++ bracketed calls ++ codes "}\n"

abbrev pub json_members : (places : Bool) → List (List ℕ) → Scripts → List Unportable → List ℕ
json_members places rows s lines = portable_member lines ++ calls_member (map (json_unportable places rows s) lines)
