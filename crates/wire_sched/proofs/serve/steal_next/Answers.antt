use Rattle.std.proofs.Common.{arith}
use Rattle.wire_rounds.proofs.Bounds.{took_at}
use Rattle.wire_sched.proofs.serve.steal_next.Goals as goal

pub returns-in-Got-clause-more : goal.returns-in-Got-clause-more
returns-in-Got-clause-more c =
    let one = took_at c.deques.victim.deque c.deques.pass c.steal_take.new.pass c.in-Got.piece c.in-Got.ensures.took in
    let before = c.deques.invariant.2 in
    omega (arith, one, before)
