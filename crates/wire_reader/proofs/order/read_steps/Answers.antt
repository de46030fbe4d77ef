use Rattle.std.proofs.Common.{inr, arith}
use Rattle.wire_reader.specs.Left.{statements_left, stated}
use Rattle.wire_reader.proofs.OrderSteps.{one_more, refused}
use Rattle.wire_reader.proofs.order.read_steps.Goals as goal

pub statements-preserved : goal.statements-preserved
statements-preserved c = record {
  so_far = one_more c.args.scripts.now (stated c.in-Some.statement) (statements_left c.next_line.new.self) (statements_left c.statements.cursor) c.statements.order.items _
      c.statements.invariant.so_far (rw c.in-Some.is at c.in_ok-statement.ensures.left)
      c.in-Some-step_of.step c.add_step.new.order.items
      (rw c.deref.ensures.value at (c.in-Some-step_of.ensures c.args.scripts.now c.in_ok-table.ensures))
      c.in_ok-add_step.ensures;
  room = omega (arith, c.in_ok-statement.ensures.room, c.statements.invariant.room);
}

pub returns-in_default-step_of-clause-err : goal.returns-in_default-step_of-clause-err
returns-in_default-step_of-clause-err c =
    inr (refused c.args.scripts.now (stated c.in-Some.statement) (statements_left c.next_line.new.self) (statements_left c.statements.cursor) c.statements.order.items _
    c.statements.invariant.so_far (rw c.in-Some.is at c.in_ok-statement.ensures.left)
    (rw c.deref.ensures.value at (c.in_default-step_of.ensures c.args.scripts.now c.in_ok-table.ensures)))
