use Rattle.std.proofs.Common.{◌≡◌, ◌++◌, ◌+◌, ◌-◌}
use Rattle.std.specs.List.{range_with_len}
use Rattle.wire_pattern_waits.proofs.places.add_numbers.Given as goal

abbrev pub invariant-loop-number : goal.invariant-loop-number
invariant-loop-number l =
    l.out.items ++ range_with_len l.number (l.first + l.count - l.number) ≡ l.fn.out.items ++ range_with_len l.first l.count
