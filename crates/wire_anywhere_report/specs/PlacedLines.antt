-- The lines of findings of all placements: as `check` writes a finding, and behind a race on a key the two ranks that share a node where it races.
use Rattle.std.specs.Prelude.{ℕ, List, [], ◌++◌, Option, Some, None, codes, length, map}
use Rattle.std.specs.List.{flat_map}
use Rattle.wire_scripts.specs.Scripts.{Scripts}
use Rattle.wire_findings.specs.declared.finding.Finding.{Finding}
use Rattle.wire_words.specs.Words.{name_of}
use Rattle.wire_report.specs.Findings.{finding_words, count_line}
use Rattle.wire_anywhere.specs.declared.placed.Pair.{Pair}
use Rattle.wire_anywhere.specs.declared.placed.PlacedFinding.{PlacedFinding}

-- two ranks: `app:2,app:3`
abbrev pub pair_text : Scripts → Pair → List ℕ
pair_text s pair = name_of s pair.lower.number ++ codes "," ++ name_of s pair.higher.number

-- which two share a node where a finding is one, nothing where it is one everywhere
abbrev pub on_text : Scripts → Option Pair → List ℕ
on_text s None = []
on_text s (Some pair) = codes " on " ++ pair_text s pair

-- the line of a finding
abbrev pub placed_line : Scripts → PlacedFinding → List ℕ
placed_line s placed = finding_words s placed.finding ++ on_text s placed.on ++ codes "\n"

-- all lines, and last how many findings there are
abbrev pub placed_report : Scripts → List PlacedFinding → List ℕ
placed_report s found = flat_map (placed_line s) found ++ count_line (length found)

-- the findings without their ranks
abbrev pub findings_in : List PlacedFinding → List Finding
findings_in found = map (λ placed. placed.finding) found
