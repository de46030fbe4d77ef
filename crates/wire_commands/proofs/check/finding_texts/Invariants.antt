use Rattle.std.proofs.Common.{◌≡◌, map, take}
use Rattle.wire_commands.specs.CallsJson.{json_finding}
use Rattle.wire_commands.proofs.check.finding_texts.Given as goal

-- the texts are those of the findings so far
abbrev pub invariant-loop-number : goal.invariant-loop-number
invariant-loop-number l = map (λ text. text.items) l.texts.items ≡ map (json_finding (map (λ row. row.items) l.rows) l.scripts) (take l.number l.findings)
