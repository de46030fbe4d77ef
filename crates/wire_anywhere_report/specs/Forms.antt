-- The text of findings of all placements in each form.
use Rattle.std.specs.Prelude.{◌≡◌, ℕ, List}
use Rattle.wire_types.specs.declared.OutputFormat.{OutputFormat}
use Rattle.wire_types.specs.declared.OutputFormat.TheVariants.{Lines, Places, Json, PlacedJson}
use Rattle.wire_scripts.specs.Scripts.{Scripts}
use Rattle.wire_anywhere.specs.declared.placed.PlacedFinding.{PlacedFinding}
use Rattle.wire_anywhere_report.specs.PlacedGroups.{IsGroupedText}
use Rattle.wire_anywhere_report.specs.PlacedJson.{IsGroupedJson, json_plain}
use Rattle.wire_anywhere_report.specs.PlacedLines.{placed_report}

-- the text tells these findings in this form: with places in groups, else one by one
abbrev pub TellsPlaced : OutputFormat → List ℕ → List (List ℕ) → Scripts → List PlacedFinding → List ℕ → Type 0
TellsPlaced Lines name rows s found text = text ≡ placed_report s found
TellsPlaced Places name rows s found text = IsGroupedText name rows s found text
TellsPlaced Json name rows s found text = text ≡ json_plain rows s found
TellsPlaced PlacedJson name rows s found text = IsGroupedJson rows s found text
