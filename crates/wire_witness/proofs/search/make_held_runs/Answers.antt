use Rattle.wire_witness.proofs.Alike.{held_runs}
use Rattle.wire_witness.proofs.search.make_held_runs.Goals as goal

pub returns-in-Ok-clause-made : goal.returns-in-Ok-clause-made
returns-in-Ok-clause-made c =
    held_runs c.args.marked.now c.plan-plan.result.now c.args.pair.x c.args.pair.y (record { first = c.in_ok-first.first; second = c.in-Ok.second }) c.plan-plan.ensures
    c.in_ok-first.ensures.made c.in-Ok.ensures.made
