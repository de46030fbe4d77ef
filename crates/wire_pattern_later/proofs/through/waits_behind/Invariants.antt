use Rattle.std.proofs.Common.{◌≡◌, map, drop}
use Rattle.wire_pattern.specs.Views.{line_by}
use Rattle.wire_pattern_later.specs.Through.{waits_behind}
use Rattle.wire_pattern_later.proofs.through.waits_behind.Given as goal

abbrev pub invariant-loop-number : goal.invariant-loop-number
invariant-loop-number l = waits_behind (map line_by (drop l.number l.lines)) ≡ waits_behind (map line_by l.lines)
