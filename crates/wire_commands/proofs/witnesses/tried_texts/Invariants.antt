use Rattle.std.proofs.Common.{◌≡◌, ◌++◌, map, drop}
use Rattle.wire_commands.specs.CallsJson.{json_tried}
use Rattle.wire_commands.proofs.witnesses.tried_texts.Given as goal

-- the texts that are made, and those that are left, are all of them
abbrev pub invariant-loop-one : goal.invariant-loop-one
invariant-loop-one l =
    map (λ text. text.items) l.texts.items ++ map (json_tried (map (λ row. row.items) l.rows) l.scripts) (drop l.one-index l.tried) ≡ map (json_tried (map (λ row. row.items) l.rows) l.scripts) l.tried
