use Rattle.std.proofs.Common.{◌≡◌, ◌++◌, drop}
use Rattle.std.specs.List.{flat_map}
use Rattle.wire_types.specs.Texts.{lists_of}
use Rattle.wire_portable_commands.specs.Lines.{all_rules, group_of_rule}
use Rattle.wire_portable_commands.proofs.groups.push_all_groups.Given as goal

-- what is written, and the lines of the rules that are left, are all lines
abbrev pub invariant-loop-rule : goal.invariant-loop-rule
invariant-loop-rule l =
    l.fn.out.items ++ flat_map (group_of_rule l.places.name.now (lists_of l.places.rows.now) l.scripts l.lines) all_rules
    ≡ l.out.items ++ flat_map (group_of_rule l.places.name.now (lists_of l.places.rows.now) l.scripts l.lines) (drop l.rule-index l.rule-items)
