use Rattle.std.proofs.Common.{◌≡◌, ◌++◌, drop}
use Rattle.wire_pattern_later.specs.Later.{later_text}
use Rattle.wire_pattern_later.proofs.text.write_later.Given as goal

abbrev pub invariant-loop-line : goal.invariant-loop-line
invariant-loop-line l =
    l.out.items ++ later_text l.pattern l.ranks (drop l.line-index l.lines) ≡ l.fn.out.items ++ later_text l.pattern l.ranks l.lines
