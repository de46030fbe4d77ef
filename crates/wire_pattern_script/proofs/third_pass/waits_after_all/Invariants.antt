use Rattle.std.proofs.Common.{◌≡◌, map, drop}
use Rattle.wire_pattern.specs.Lawful.{waits_after_all}
use Rattle.wire_pattern.specs.Views.{line_by}
use Rattle.wire_pattern_script.proofs.third_pass.waits_after_all.Given as goal

abbrev pub invariant-loop-line : goal.invariant-loop-line
invariant-loop-line l = record {
  same : waits_after_all l.before (map line_by l.lines) ≡ waits_after_all l.waits (map line_by (drop l.line-index l.lines));
}
