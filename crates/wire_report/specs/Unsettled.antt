-- The text of a replay of a plan with findings, as bytes: its report, and the order of its steps.
use Rattle.std.specs.Prelude.{ℕ, Bool, true, false, List, ◌++◌, codes, decimal, length}
use Rattle.std.specs.List.{flat_map}
use Rattle.wire_types.specs.Outcome.{Ends}
use Rattle.wire_scripts.specs.Scripts.{Scripts}
use Rattle.wire_words.specs.Words.{name_of}
use Rattle.wire_json.specs.Json.{json_unsettled}
use Rattle.wire_report.specs.Report.{report}

-- the line of a step: its process
abbrev pub step_line : Scripts → ℕ → List ℕ
step_line scripts p = name_of scripts p ++ codes "\n"

-- how many steps there are, and their lines
abbrev pub order_text : Scripts → List ℕ → List ℕ
order_text scripts order = codes "order " ++ decimal (length order) ++ codes "\n" ++ flat_map (step_line scripts) order

-- the report, and the order of the steps
abbrev pub unsettled : Scripts → Ends → List ℕ → List ℕ
unsettled scripts ends order = codes "unsettled\n" ++ report scripts ends ++ order_text scripts order

-- the same in lines, or as JSON
abbrev pub unsettled_form : Bool → Scripts → Ends → List ℕ → List ℕ
unsettled_form false scripts ends order = unsettled scripts ends order
unsettled_form true scripts ends order = json_unsettled scripts ends order
