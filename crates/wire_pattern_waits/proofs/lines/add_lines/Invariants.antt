use Rattle.std.proofs.Common.{◌≡◌, ◌++◌, map, drop}
use Rattle.wire_pattern.specs.Views.{line_by}
use Rattle.wire_pattern_waits.specs.Lines.{verb_of}
use Rattle.wire_pattern_waits.proofs.lines.add_lines.Given as goal

abbrev pub invariant-loop-line : goal.invariant-loop-line
invariant-loop-line l =
    l.verbs.items ++ map (λ k. verb_of k.call) (map line_by (drop l.line-index l.lines))
    ≡ l.fn.verbs.items ++ map (λ k. verb_of k.call) (map line_by l.lines)
