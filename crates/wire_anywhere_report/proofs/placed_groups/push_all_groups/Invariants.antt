use Rattle.std.proofs.Common.{◌≡◌, ◌++◌, drop}
use Rattle.std.specs.List.{flat_map}
use Rattle.wire_types.specs.Texts.{lists_of}
use Rattle.wire_anywhere_report.specs.PlacedGroups.{group_text}
use Rattle.wire_anywhere_report.proofs.placed_groups.push_all_groups.Given as goal

-- what is written, and the lines of the groups that are left, are all lines
abbrev pub invariant-loop-group : goal.invariant-loop-group
invariant-loop-group l =
    l.fn.out.items ++ flat_map (group_text l.places.name.now l.scripts (lists_of l.places.rows.now) l.found) l.groups
    ≡ l.out.items ++ flat_map (group_text l.places.name.now l.scripts (lists_of l.places.rows.now) l.found) (drop l.group-index l.groups)
