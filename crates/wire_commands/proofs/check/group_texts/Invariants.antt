use Rattle.std.proofs.Common.{◌≡◌, ◌++◌, map, drop}
use Rattle.wire_commands.specs.CallsJson.{json_group}
use Rattle.wire_commands.proofs.check.group_texts.Given as goal

-- the texts that are made, and those that are left, are all of them
abbrev pub invariant-loop-group : goal.invariant-loop-group
invariant-loop-group l =
    map (λ text. text.items) l.texts.items ++ map json_group (drop l.group-index l.groups) ≡ map json_group l.groups
