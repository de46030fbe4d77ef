use Rattle.std.proofs.Common.{◌≡◌, map, take}
use Rattle.wire_types.specs.Forms.{has_places}
use Rattle.wire_types.specs.Texts.{lists_of}
use Rattle.wire_anywhere_report.specs.PlacedJson.{json_placed}
use Rattle.wire_anywhere_report.proofs.placed_json.placed_texts.Given as goal

-- the texts are those of the findings so far
abbrev pub invariant-loop-number : goal.invariant-loop-number
invariant-loop-number l = lists_of l.texts.items ≡ map (json_placed (has_places l.form) (lists_of l.rows) l.scripts) (take l.number l.found)
