-- The JSON of findings of all placements: an object for each, with the words that `check` writes of it, for a race on a key the two ranks that
-- share a node where it races, and with places its two calls and their lines.
use Rattle.std.specs.Prelude.{◌≡◌, ℕ, Bool, true, false, List, [], ◌++◌, Option, Some, None, codes, decimal, map}
use Rattle.wire_types.specs.declared.CallAt.{CallAt}
use Rattle.wire_scripts.specs.Scripts.{Scripts}
use Rattle.wire_findings.specs.declared.finding.Finding.{Finding}
use Rattle.wire_words.specs.Words.{name_of}
use Rattle.wire_json.specs.declared.chains.Half.TheVariants.{Whole}
use Rattle.wire_json.specs.Json.{quoted, bracketed}
use Rattle.wire_json.specs.Lined.{lined_step}
use Rattle.wire_report.specs.declared.tally.Group.{Group}
use Rattle.wire_report.specs.Findings.{finding_words}
use Rattle.wire_report.specs.Grouped.{AreGroupsOf}
use Rattle.wire_report.specs.Label.{pair_of}
use Rattle.wire_report.specs.Place.{line_of}
use Rattle.wire_anywhere.specs.declared.placed.Pair.{Pair}
use Rattle.wire_anywhere.specs.declared.placed.PlacedFinding.{PlacedFinding}
use Rattle.wire_anywhere_report.specs.PlacedLines.{findings_in}

-- a call with its line
unfoldable pub lined_call : List (List ℕ) → Scripts → CallAt → List ℕ
lined_call rows s call = lined_step s (record { call = call; half = Whole }) (line_of rows call)

-- the member of the two calls of a finding, none in a form without places
abbrev pub calls_member : (places : Bool) → List (List ℕ) → Scripts → Finding → List ℕ
calls_member false rows s finding = []
calls_member true rows s finding =
    codes "\"calls\":[" ++ lined_call rows s (pair_of finding).lower ++ codes "," ++ lined_call rows s (pair_of finding).higher ++ codes "],"

-- the member of the two ranks, none where a finding is one everywhere
abbrev pub on_member : Scripts → Option Pair → List ℕ
on_member s None = []
on_member s (Some pair) = codes ",\"on\":[" ++ quoted (name_of s pair.lower.number) ++ codes "," ++ quoted (name_of s pair.higher.number) ++ codes "]"

-- a finding, with this member before its words
abbrev pub placed_with : List ℕ → Scripts → PlacedFinding → List ℕ
placed_with calls s placed =
    codes "{" ++ calls ++ codes "\"finding\":" ++ quoted (finding_words s placed.finding) ++ on_member s placed.on ++ codes "}"

abbrev pub json_placed : (places : Bool) → List (List ℕ) → Scripts → PlacedFinding → List ℕ
json_placed places rows s placed = placed_with (calls_member places rows s placed.finding) s placed

-- all findings
abbrev pub json_all : (places : Bool) → List (List ℕ) → Scripts → List PlacedFinding → List ℕ
json_all places rows s found = codes "{\"findings\":" ++ bracketed (map (json_placed places rows s) found)

-- in a form without places
abbrev pub json_plain : List (List ℕ) → Scripts → List PlacedFinding → List ℕ
json_plain rows s found = json_all false rows s found ++ codes "}\n"

-- a group: how many findings it has, and the place of the first of them in the list, from 0
abbrev pub json_group : Group → List ℕ
json_group group = codes "{\"count\":" ++ decimal group.count ++ codes ",\"first\":" ++ decimal group.first ++ codes "}"

-- all findings and their groups
abbrev pub json_groups : List (List ℕ) → Scripts → List PlacedFinding → List Group → List ℕ
json_groups rows s found groups = json_all true rows s found ++ codes ",\"groups\":" ++ bracketed (map json_group groups) ++ codes "}\n"

-- the JSON of these findings with their groups
pub record IsGroupedJson (rows : List (List ℕ)) (s : Scripts) (found : List PlacedFinding) (text : List ℕ) : Type 0 where
  pub groups : List Group
  pub grouped : AreGroupsOf s (findings_in found) groups
  pub tells : text ≡ json_groups rows s found groups
