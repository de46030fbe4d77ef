use Rattle.std.proofs.Common.{◌≡◌, ◌++◌, map, drop}
use Rattle.wire_types.specs.Texts.{lists_of}
use Rattle.wire_anywhere_report.specs.PlacedJson.{json_group}
use Rattle.wire_anywhere_report.proofs.placed_json.group_texts.Given as goal

-- the texts that are made, and those that are left, are all of them
abbrev pub invariant-loop-group : goal.invariant-loop-group
invariant-loop-group l = lists_of l.texts.items ++ map json_group (drop l.group-index l.groups) ≡ map json_group l.groups
