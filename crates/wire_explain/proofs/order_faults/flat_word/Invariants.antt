use Rattle.std.proofs.Common.{◌≡◌, take, map}
use Rattle.wire_explain.specs.Order.{in_line}
use Rattle.wire_explain.proofs.order_faults.flat_word.Given as goal

abbrev pub invariant-loop-byte : goal.invariant-loop-byte
invariant-loop-byte l = l.flat.items ≡ map in_line (take l.byte-index l.word)
