use Rattle.std.proofs.Common.{◌≡◌, ◌++◌, drop}
use Rattle.std.specs.List.{flat_map}
use Rattle.wire_portable_commands.specs.Heads.{IsHead}
use Rattle.wire_portable_commands.specs.Lines.{unportable_line}
use Rattle.wire_portable_commands.proofs.lines.push_all.Given as goal

-- what is written, and the lines of the calls that are left, are all lines
abbrev pub invariant-loop-line : goal.invariant-loop-line
invariant-loop-line l =
    (l.fn.out.items ++ flat_map (unportable_line l.scripts) l.lines ≡ l.out.items ++ flat_map (unportable_line l.scripts) (drop l.line-index l.lines)) × IsHead l.scripts l.head
