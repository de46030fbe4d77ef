use Rattle.std.proofs.Common.{◌≤◌}
use Rattle.wire_pattern_later.specs.Later.{NoneBelow}
use Rattle.wire_pattern_later.specs.Through.{first_size}
use Rattle.wire_pattern_later.proofs.later.later_lines.Given as goal

abbrev pub invariant-loop-ranks : goal.invariant-loop-ranks
invariant-loop-ranks l = (first_size l.pattern.roles ≤ l.ranks) × NoneBelow l.pattern l.ranks
