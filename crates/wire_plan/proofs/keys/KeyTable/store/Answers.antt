use Rattle.std.proofs.Common.{subst}
use Rattle.wire_runs.specs.Plan.{event_count}
use Rattle.wire_plan.specs.Keys.{IsKeyRow}
use Rattle.wire_plan.proofs.KeyFacts.{never_put_stored}
use Rattle.wire_plan.proofs.keys.KeyTable.store.Goals as goal

pub returns-in-None : goal.returns-in-None
returns-in-None c = λ plan are.
    let p = c.args.owner.number in
    never_put_stored plan p c.args.key (event_count plan p) (subst (λ o. IsKeyRow plan p c.args.key o) c.in-None.is (c.row.ensures.is plan are))
