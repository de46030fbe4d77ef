use Rattle.std.proofs.Common.{◌≡◌, ◌++◌, map, drop}
use Rattle.wire_commands.specs.CallsJson.{json_place}
use Rattle.wire_commands.proofs.why.place_texts.Given as goal

-- the texts that are made, and those that are left, are all of them
abbrev pub invariant-loop-call : goal.invariant-loop-call
invariant-loop-call l =
    map (λ text. text.items) l.texts.items ++ map (json_place (map (λ row. row.items) l.rows) l.scripts) (drop l.call-index l.calls)
    ≡ map (json_place (map (λ row. row.items) l.rows) l.scripts) l.calls
