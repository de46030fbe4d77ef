use Rattle.std.proofs.Common.{◌≡◌, drop}
use Rattle.wire_instances.specs.Search.{past}
use Rattle.wire_instances.proofs.numbers.pass_numbers.Given as goal

abbrev pub invariant-loop-number : goal.invariant-loop-number
invariant-loop-number l = past l.search (drop l.number-index l.numbers) ≡ past l.fn.search l.numbers
