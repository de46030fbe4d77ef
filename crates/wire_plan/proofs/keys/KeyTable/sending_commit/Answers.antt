use Rattle.std.proofs.Common.{◌∙◌, subst, sym}
use Rattle.std.proofs.lemmas.Bool.{true≢false}
use Rattle.wire_plan.specs.Keys.{IsKeyRow}
use Rattle.wire_plan.proofs.KeyFacts.{sent_by_store, sent_admits}
use Rattle.wire_plan.proofs.keys.KeyTable.sending_commit.Goals as goal

pub returns-then-is_for_others : goal.returns-then-is_for_others
returns-then-is_for_others c = λ plan are once.
    let p = c.args.owner.number in
    let row = subst (λ o. IsKeyRow plan p c.args.key o) c.in-Some.is (c.row.ensures.is plan are) in
    sent_by_store plan p c.args.key c.in-Some.row once row (sym c.is_for_others.ensures ∙ c.if-is_for_others.true) c.in-Some.row.store row.store

pub returns-else-is_for_others : goal.returns-else-is_for_others
returns-else-is_for_others c = λ plan are once at sent.
    let p = c.args.owner.number in
    let row = subst (λ o. IsKeyRow plan p c.args.key o) c.in-Some.is (c.row.ensures.is plan are) in
    true≢false (sym (sent_admits plan p c.args.key at c.in-Some.row once row sent) ∙ sym c.is_for_others.ensures ∙ c.if-is_for_others.false)
