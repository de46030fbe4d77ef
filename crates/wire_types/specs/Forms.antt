-- The forms in which an answer is written.
use Rattle.std.specs.Prelude.{Bool, true, false}
use Rattle.wire_types.specs.declared.form.OutputFormat.{OutputFormat}
use Rattle.wire_types.specs.declared.form.OutputFormat.TheVariants.{Lines, Places, Json, PlacedJson}

-- whether the answer is JSON
abbrev pub is_json : OutputFormat → Bool
is_json Lines = false
is_json Places = false
is_json Json = true
is_json PlacedJson = true

-- whether it tells where calls stand
abbrev pub has_places : OutputFormat → Bool
has_places Lines = false
has_places Places = true
has_places Json = false
has_places PlacedJson = true
