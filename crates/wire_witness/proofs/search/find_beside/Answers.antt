use Rattle.wire_witness.proofs.Alike.{none_differs}
use Rattle.wire_witness.proofs.search.find_beside.Goals as goal

pub returns-in-None-2-clause-not_shown : goal.returns-in-None-2-clause-not_shown
returns-in-None-2-clause-not_shown c =
    none_differs c.args.marked.now c.plan-plan.result.now c.args.pair.x c.args.pair.y c.args.held.now c.in_ok-needed.needed c.plan-plan.ensures c.in_ok-needed.ensures.made
    (rw c.in-None.is at c.in_ok-witness.ensures.alike) (rw c.in-None-2.is at c.in_ok-witness-2.ensures.alike)
