-- The JSON forms, as bytes, in which each call has the number of its line in the file.
use Rattle.std.specs.Prelude.{ℕ, Bool, List, ◌++◌, Option, Some, None, codes, decimal, map}
use Rattle.wire_types.specs.declared.CallAt.{CallAt}
use Rattle.wire_scripts.specs.Scripts.{Scripts, numbers_of}
use Rattle.wire_findings.specs.declared.finding.Finding.{Finding}
use Rattle.wire_report.specs.declared.tally.Group.{Group}
use Rattle.wire_json.specs.declared.chains.ChainStep.{ChainStep}
use Rattle.wire_json.specs.declared.chains.Half.TheVariants.{Whole}
use Rattle.wire_json.specs.Json.{quoted, bracketed}
use Rattle.wire_json.specs.Chains.{which_word}
use Rattle.wire_json.specs.Lined.{lined_step, lined_place}
use Rattle.wire_json.specs.Witnesses.{json_run, json_counts}
use Rattle.wire_report.specs.Findings.{finding_words}
use Rattle.wire_report.specs.Label.{pair_of}
use Rattle.wire_report.specs.Place.{line_of}
use Rattle.wire_witness.specs.declared.witness.Witness.{Witness}
use Rattle.wire_witness.specs.declared.all.RaceSearch.{RaceSearch}
use Rattle.wire_witness.specs.declared.tried.TriedRace.{TriedRace}
use Rattle.wire_witness.specs.Searches.{counts_of}

-- a call, or a half of a fence, with its line
unfoldable pub json_step : List (List ℕ) → Scripts → ChainStep → List ℕ
json_step rows scripts step = lined_step scripts step (line_of rows step.call)

abbrev pub json_call : List (List ℕ) → Scripts → CallAt → List ℕ
json_call rows scripts call = json_step rows scripts (record { call = call; half = Whole })

-- a call by its process, its number and its line alone
unfoldable pub json_place : List (List ℕ) → Scripts → CallAt → List ℕ
json_place rows scripts call = lined_place scripts call (line_of rows call)

-- the chain that orders two calls: whether it begins at the first of them, and its steps
abbrev pub json_chain : List (List ℕ) → (first : Bool) → Scripts → List ChainStep → List ℕ
json_chain rows first scripts steps =
    codes "{\"before\":\"" ++ which_word first ++ codes "\",\"chain\":" ++ bracketed (map (json_step rows scripts) steps) ++ codes "}\n"

-- no chain orders two calls, and these of them are dead
abbrev pub json_unordered : List (List ℕ) → Scripts → List CallAt → List ℕ
json_unordered rows scripts dead = codes "{\"before\":null,\"dead\":" ++ bracketed (map (json_place rows scripts) dead) ++ codes "}\n"

-- the first members of a finding: its two calls, and its words
unfoldable pub finding_members : List (List ℕ) → Scripts → Finding → List ℕ
finding_members rows scripts finding =
    codes "{\"calls\":[" ++ json_call rows scripts (pair_of finding).lower ++ codes ","
    ++ json_call rows scripts (pair_of finding).higher ++ codes "],\"finding\":"
    ++ quoted (finding_words scripts finding)

abbrev pub json_finding : List (List ℕ) → Scripts → Finding → List ℕ
json_finding rows scripts finding = finding_members rows scripts finding ++ codes "}"

-- a group: how many findings it has, and the place of the first of them in the list, from 0
abbrev pub json_group : Group → List ℕ
json_group group = codes "{\"count\":" ++ decimal group.count ++ codes ",\"first\":" ++ decimal group.first ++ codes "}"

-- the findings, and their groups
abbrev pub json_groups : List (List ℕ) → Scripts → List Finding → List Group → List ℕ
json_groups rows scripts found groups =
    codes "{\"findings\":" ++ bracketed (map (json_finding rows scripts) found) ++ codes ",\"groups\":" ++ bracketed (map json_group groups) ++ codes "}\n"

-- two runs that show a race, the call that ends differently in them, and the other call of the race
abbrev pub json_witness : List (List ℕ) → Scripts → Witness → List ℕ
json_witness rows scripts witness =
    codes "{\"first\":" ++ json_run scripts witness.first_end (numbers_of witness.first.items) ++ codes ",\"other\":" ++ json_call rows scripts witness.other
    ++ codes ",\"race\":true,\"second\":" ++ json_run scripts witness.second_end (numbers_of witness.second.items) ++ codes ",\"shown\":"
    ++ json_call rows scripts witness.call ++ codes "}\n"

-- the call that shows a race, null where none was found
abbrev pub json_shown : List (List ℕ) → Scripts → Option CallAt → List ℕ
json_shown rows scripts (Some call) = json_place rows scripts call
json_shown rows scripts None = codes "null"

-- a race that was tried
abbrev pub json_tried : List (List ℕ) → Scripts → TriedRace → List ℕ
json_tried rows scripts tried = finding_members rows scripts tried.race ++ codes ",\"shown\":" ++ json_shown rows scripts tried.shown ++ codes "}"

-- the races that were tried, and how many there are
abbrev pub json_races : List (List ℕ) → Scripts → RaceSearch → List ℕ
json_races rows scripts search =
    codes "{\"counts\":" ++ json_counts (counts_of search) ++ codes ",\"races\":" ++ bracketed (map (json_tried rows scripts) search.tried.items) ++ codes "}\n"
