use Rattle.std.proofs.Common.{◌∙◌, ◌+◌, inr}
use Rattle.wire_reader.proofs.OrderSteps.{one_more, refused}
use Rattle.wire_reader.proofs.RankParts.{next_part}
use Rattle.wire_reader.proofs.ranks.read_parts.Goals as goal

pub loop-number-preserved : goal.loop-number-preserved
loop-number-preserved c =
    let n = c.loop-number.number in
    one_more c.args.scripts.now _ _ _ c.loop-number.ranks.items _ c.loop-number.invariant
    (next_part (n + 1) c.args.parts.now n _ c.loop-number-test.true) c.in-Some.rank c.add_step.new.order.items
    (c.in-Some.ensures ∙ c.in_ok-table.ensures _) c.in_ok-add_step.ensures

pub returns-in_default-clause-err : goal.returns-in_default-clause-err
returns-in_default-clause-err c =
    let n = c.loop-number.number in
    inr (refused c.args.scripts.now _ _ _ c.loop-number.ranks.items _ c.loop-number.invariant
    (next_part (n + 1) c.args.parts.now n _ c.loop-number-test.true) (c.in_default.ensures ∙ c.in_ok-table.ensures _))
