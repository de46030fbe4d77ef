use Rattle.std.proofs.Common.{subst}
use Rattle.wire_plan.specs.Keys.{IsStore}
use Rattle.wire_plan.proofs.KeyFacts.{no_store}
use Rattle.wire_plan.proofs.keys.KeyTable.store_of.Goals as goal

pub returns-in-None : goal.returns-in-None
returns-in-None c = λ plan are.
    let p = c.args.owner.number in
    no_store plan p c.args.key (subst (λ o. IsStore plan p c.args.key o) c.in-None.is (c.store.ensures plan are))
