use Rattle.std.proofs.Common.{◌≡◌, map, drop}
use Rattle.wire_pattern_script.specs.Faults.{commit_line}
use Rattle.wire_pattern.specs.Views.{line_by}
use Rattle.wire_pattern_script.proofs.third_pass.commit_line.Given as goal

abbrev pub invariant-loop-line : goal.invariant-loop-line
invariant-loop-line l = record {
  same : commit_line (map line_by l.lines) ≡ commit_line (map line_by (drop l.line-index l.lines));
}
