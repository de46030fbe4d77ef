use Rattle.std.proofs.Common.{◌≡◌, ◌+◌, drop}
use Rattle.wire_types.specs.Texts.{texts_of}
use Rattle.wire_scripts.specs.Scripts.{numbers_of}
use Rattle.wire_reader.specs.Order.{order_of}
use Rattle.wire_reader.specs.ProcWords.{steps_before}
use Rattle.wire_reader.specs.Ranks.{parts_from}
use Rattle.wire_reader.proofs.ranks.read_parts.Given as goal

abbrev pub invariant-loop-number : goal.invariant-loop-number
invariant-loop-number l =
    order_of l.scripts (parts_from 1 (texts_of l.parts)) ≡ steps_before (numbers_of l.ranks.items) (order_of l.scripts (parts_from (l.number + 1) (texts_of (drop l.number l.parts))))
