use Rattle.std.proofs.Common.{◌≡◌, ◌++◌, map, drop}
use Rattle.wire_commands.specs.CallsJson.{json_step}
use Rattle.wire_commands.proofs.why.step_texts.Given as goal

-- the texts that are made, and those that are left, are all of them
abbrev pub invariant-loop-step : goal.invariant-loop-step
invariant-loop-step l =
    map (λ text. text.items) l.texts.items ++ map (json_step (map (λ row. row.items) l.rows) l.scripts) (drop l.step-index l.steps) ≡ map (json_step (map (λ row. row.items) l.rows) l.scripts) l.steps
