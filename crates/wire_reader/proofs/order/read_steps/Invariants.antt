use Rattle.std.proofs.Common.{◌≡◌, ◌+◌, ◌<◌, ◌^◌, length}
use Rattle.wire_scripts.specs.Scripts.{numbers_of}
use Rattle.wire_reader.specs.Statements.{statements}
use Rattle.wire_reader.specs.Left.{statements_left}
use Rattle.wire_reader.specs.Order.{order_of}
use Rattle.wire_reader.specs.ProcWords.{steps_before}
use Rattle.wire_reader.proofs.order.read_steps.Given as goal

abbrev pub invariant-statements : goal.invariant-statements
invariant-statements l = record {
  so_far : order_of l.scripts (statements l.bytes) ≡ steps_before (numbers_of l.order.items) (order_of l.scripts (statements_left l.cursor));
  room : l.cursor.line + length l.cursor.rest.now < 2 ^ 64;
}

abbrev pub decreases-statements : goal.decreases-statements
decreases-statements l = length (statements_left l.cursor)
