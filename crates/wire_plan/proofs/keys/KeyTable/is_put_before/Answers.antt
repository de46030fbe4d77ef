use Rattle.std.proofs.Common.{subst, sym, ap, is_some}
use Rattle.wire_plan.specs.Keys.{IsKeyRow}
use Rattle.wire_plan.proofs.KeyFacts.{never_put, put_exactly}
use Rattle.wire_plan.proofs.keys.KeyTable.is_put_before.Goals as goal

pub returns-in-Some : goal.returns-in-Some
returns-in-Some c = λ plan are.
    let p = c.args.owner.number in
    let is = subst (λ o. IsKeyRow plan p c.args.key o) c.in-Some.is (c.row.ensures.is plan are) in
    sym (put_exactly plan p c.args.key c.in-Some.row.first c.args.at is.first)

pub returns-in-None : goal.returns-in-None
returns-in-None c = λ plan are.
    let p = c.args.owner.number in
    let is = subst (λ o. IsKeyRow plan p c.args.key o) c.in-None.is (c.row.ensures.is plan are) in
    sym (ap is_some (never_put plan p c.args.key c.args.at is))
