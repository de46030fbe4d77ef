use Rattle.std.proofs.Common.{◌≡◌, ◌++◌, drop}
use Rattle.std.specs.List.{flat_map}
use Rattle.wire_commands.specs.Witnesses.{race_line}
use Rattle.wire_commands.proofs.witnesses.push_lines.Given as goal

-- what is written, and the lines of the races that are left, are all lines
abbrev pub invariant-loop-one : goal.invariant-loop-one
invariant-loop-one l = l.fn.out.items ++ flat_map (race_line l.scripts) l.tried ≡ l.out.items ++ flat_map (race_line l.scripts) (drop l.one-index l.tried)
