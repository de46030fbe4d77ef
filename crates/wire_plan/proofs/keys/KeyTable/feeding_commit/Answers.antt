use Rattle.wire_plan.proofs.KeyFacts.{feeds_where}
use Rattle.wire_plan.proofs.keys.KeyTable.feeding_commit.Goals as goal

pub returns-then-put_count-eq1 : goal.returns-then-put_count-eq1
returns-then-put_count-eq1 c = λ plan are.
    feeds_where plan c.args.owner c.args.key c.put_count.result c.store_of.result (c.put_count.ensures plan are) c.if-put_count-eq1.true (c.store_of.ensures plan are)
