-- The text of findings of all placements in groups: as `check --lines` writes it, and behind the second call of a race on a key the two ranks
-- that share a node where it races.
use Rattle.std.specs.Prelude.{◌≡◌, ℕ, List, [], ◌++◌, Option, Some, None, codes, length, slice_get}
use Rattle.std.specs.List.{flat_map}
use Rattle.wire_types.specs.declared.CallAt.{CallAt}
use Rattle.wire_scripts.specs.Scripts.{Scripts}
use Rattle.wire_report.specs.declared.tally.Group.{Group}
use Rattle.wire_report.specs.Grouped.{AreGroupsOf}
use Rattle.wire_report.specs.GroupedText.{first_line, last_line, said_call}
use Rattle.wire_report.specs.Label.{pair_of}
use Rattle.wire_report.specs.Place.{place_text}
use Rattle.wire_anywhere.specs.declared.placed.PlacedFinding.{PlacedFinding}
use Rattle.wire_anywhere_report.specs.PlacedLines.{findings_in, on_text}

-- where a call stands, and the call, which goes with the one in the line above
abbrev pub note_part : List ℕ → Scripts → List (List ℕ) → CallAt → List ℕ
note_part name s rows call = place_text name rows call ++ codes "note: " ++ said_call s call

-- the second line of a group: the second call of its first finding, and where that is one
abbrev pub second_line : List ℕ → Scripts → List (List ℕ) → PlacedFinding → List ℕ
second_line name s rows placed =
    note_part name s rows (pair_of placed.finding).higher ++ on_text s placed.on ++ codes "\n"

abbrev pub lines_of_group : List ℕ → Scripts → List (List ℕ) → Option PlacedFinding → ℕ → List ℕ
lines_of_group name s rows None count = []
lines_of_group name s rows (Some placed) count = first_line name s rows placed.finding count ++ second_line name s rows placed

abbrev pub group_text : List ℕ → Scripts → List (List ℕ) → List PlacedFinding → Group → List ℕ
group_text name s rows found group = lines_of_group name s rows (slice_get found group.first) group.count

-- the lines of all groups, and last how many findings and groups there are
abbrev pub groups_report : List ℕ → Scripts → List (List ℕ) → List PlacedFinding → List Group → List ℕ
groups_report name s rows found groups = flat_map (group_text name s rows found) groups ++ last_line (length found) (length groups)

-- the text of these findings in groups
pub record IsGroupedText (name : List ℕ) (rows : List (List ℕ)) (s : Scripts) (found : List PlacedFinding) (text : List ℕ) : Type 0 where
  pub groups : List Group
  pub grouped : AreGroupsOf s (findings_in found) groups
  pub tells : text ≡ groups_report name s rows found groups
