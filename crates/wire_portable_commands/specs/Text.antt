-- The whole text of `check --portable` in each form.
use Rattle.std.specs.Prelude.{ℕ, ◌-◌, true, false, List, ◌++◌, length, take}
use Rattle.wire_types.specs.declared.OutputFormat.{OutputFormat}
use Rattle.wire_types.specs.declared.OutputFormat.TheVariants.{Lines, Places, Json, PlacedJson}
use Rattle.wire_scripts.specs.Scripts.{Scripts}
use Rattle.wire_portable.specs.declared.listed.Unportable.{Unportable}
use Rattle.wire_portable_commands.specs.Lines.{plain_lines, grouped_lines}
use Rattle.wire_portable_commands.specs.Json.{json_members}

-- the object of the findings without its end, a brace and a line feed
abbrev pub open_object : List ℕ → List ℕ
open_object told = take (length told - 2) told

-- the text of the findings, and what is told of libraries
abbrev pub whole_text : OutputFormat → List ℕ → List (List ℕ) → Scripts → (told : List ℕ) → List Unportable → List ℕ
whole_text Lines name rows s told lines = told ++ plain_lines s lines
whole_text Places name rows s told lines = told ++ grouped_lines name rows s lines
whole_text Json name rows s told lines = open_object told ++ json_members false rows s lines
whole_text PlacedJson name rows s told lines = open_object told ++ json_members true rows s lines
