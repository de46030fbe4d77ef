use Rattle.std.proofs.Common.{◌≡◌, ◌++◌, drop}
use Rattle.std.specs.List.{flat_map}
use Rattle.wire_report.specs.Chain.{dead_line}
use Rattle.wire_report.proofs.chain_parts.push_dead_lines.Given as goal

-- what is written, and the lines of the calls that are left, are all lines
abbrev pub invariant-loop-call : goal.invariant-loop-call
invariant-loop-call l = l.fn.out.items ++ flat_map (dead_line l.scripts) l.dead ≡ l.out.items ++ flat_map (dead_line l.scripts) (drop l.call-index l.dead)
