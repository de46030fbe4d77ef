use Rattle.std.proofs.Common.{◌≡◌, drop}
use Rattle.std.specs.Prelude.{max}
use Rattle.wire_pattern_later.specs.Through.{most_through}
use Rattle.wire_pattern_later.proofs.through.most_through.Given as goal

abbrev pub invariant-loop-number : goal.invariant-loop-number
invariant-loop-number l =
    max l.most (most_through l.pattern.roles l.number (drop l.number l.pattern.roles)) ≡ most_through l.pattern.roles 0 l.pattern.roles
