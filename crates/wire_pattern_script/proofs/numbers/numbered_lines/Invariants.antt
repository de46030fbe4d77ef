use Rattle.std.proofs.Common.{◌≡◌, map, take}
use Rattle.wire_pattern_script.specs.Numbers.{line_of}
use Rattle.wire_pattern.specs.Views.{line_by}
use Rattle.wire_pattern_script.specs.Drafted.{placed_of}
use Rattle.wire_pattern_script.specs.Drafted.{declared_of}
use Rattle.wire_pattern_script.proofs.numbers.numbered_lines.Given as goal

abbrev pub invariant-loop-line : goal.invariant-loop-line
invariant-loop-line l = record {
  so_far : map line_by l.numbered.items ≡ map (line_of (declared_of l.draft) l.job) (map placed_of (take l.line-index l.lines));
}
