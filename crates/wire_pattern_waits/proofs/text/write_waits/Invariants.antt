use Rattle.std.proofs.Common.{◌≡◌, ◌++◌, drop}
use Rattle.wire_pattern_waits.specs.Lines.{waits_text}
use Rattle.wire_pattern_waits.proofs.text.write_waits.Given as goal

abbrev pub invariant-loop-line : goal.invariant-loop-line
invariant-loop-line l =
    l.out.items ++ waits_text l.pattern (drop l.line-index l.lines) ≡ l.fn.out.items ++ waits_text l.pattern l.lines
