use Rattle.std.proofs.Common.{◌≡◌, ◌++◌, map, drop}
use Rattle.wire_types.specs.Forms.{has_places}
use Rattle.wire_types.specs.Texts.{lists_of}
use Rattle.wire_portable_commands.specs.Json.{json_unportable}
use Rattle.wire_portable_commands.proofs.json.unportable_texts.Given as goal

-- the texts that are made, and those that are left, are all of them
abbrev pub invariant-loop-line : goal.invariant-loop-line
invariant-loop-line l =
    lists_of l.texts.items ++ map (json_unportable (has_places l.telling.form) (lists_of l.telling.places.rows.now) l.scripts) (drop l.line-index l.lines)
    ≡ map (json_unportable (has_places l.telling.form) (lists_of l.telling.places.rows.now) l.scripts) l.lines
