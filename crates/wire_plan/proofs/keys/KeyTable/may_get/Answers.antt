use Rattle.std.proofs.Common.{◌∙◌, sym}
use Rattle.wire_plan.proofs.KeyFacts.{stored_at_all, or_from}
use Rattle.wire_plan.proofs.keys.KeyTable.may_get.Goals as goal

pub returns-then-is_some : goal.returns-then-is_some
returns-then-is_some c = λ plan are.
    or_from _ _ _ c.if-is_some.true (c.is_some.ensures ∙ sym (stored_at_all plan c.args.owner.number c.args.key c.store.result (c.store.ensures plan are)))
