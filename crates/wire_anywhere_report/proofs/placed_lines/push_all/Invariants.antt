use Rattle.std.proofs.Common.{◌≡◌, ◌++◌, take}
use Rattle.std.specs.List.{flat_map}
use Rattle.wire_anywhere_report.specs.PlacedLines.{placed_line}
use Rattle.wire_anywhere_report.proofs.placed_lines.push_all.Given as goal

-- the lines of the findings so far are written
abbrev pub invariant-loop-number : goal.invariant-loop-number
invariant-loop-number l = l.out.items ≡ l.fn.out.items ++ flat_map (placed_line l.scripts) (take l.number l.found)
