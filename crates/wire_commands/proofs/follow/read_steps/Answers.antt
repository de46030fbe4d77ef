use Rattle.wire_commands.proofs.Followed.{steps_ok, steps_err, no_read_of_order}
use Rattle.wire_commands.proofs.follow.read_steps.Goals as goal

pub returns-clause-ok : goal.returns-clause-ok
returns-clause-ok g c =
    steps_ok c.args.size (g.O.Source.coming c.args.order_reader.now) c.in_ok-bytes.bytes.items c.as_slice.result.now c.args.scripts.now c.read_order_sized.result c.as_slice.ensures.value
    (rw c.order_bytes.ensures at c.in_ok-bytes.ensures.front)
    c.read_order_sized.ensures.ok

pub returns-clause-err : goal.returns-clause-err
returns-clause-err g c =
    steps_err c.args.size (g.O.Source.coming c.args.order_reader.now) c.in_ok-bytes.bytes.items c.as_slice.result.now c.args.scripts.now c.read_order_sized.result c.as_slice.ensures.value
    (rw c.order_bytes.ensures at c.in_ok-bytes.ensures.front)
    c.read_order_sized.ensures.err

pub returns-clause-read : goal.returns-clause-read
returns-clause-read g c is = absurd (no_read_of_order c.args.size c.args.scripts.now c.as_slice.result.now c.read_order_sized.result c.read_order_sized.ensures.err is)
