use Rattle.std.proofs.Common.{◌∙◌, ◌+◌, sym, arith}
use Rattle.wire_anywhere.proofs.Growing.{none_on_all, one_on_all, all_on_all}
use Rattle.wire_anywhere.proofs.finding_search.add_placeless.Goals as goal

pub loop-number-init : goal.loop-number-init
loop-number-init c = λ plan. none_on_all plan c.args.list.now c.args.found.now

pub loop-number-preserved : goal.loop-number-preserved
loop-number-preserved c = λ plan.
    let n = c.loop-number.number in
    one_on_all plan c.args.list.now c.args.found.now c.loop-number.found c.push.new.self n (n + 1) c.in-Some.finding (omega arith) (sym c.get.ensures ∙ c.in-Some.is) c.in_ok-push.ensures
    (c.loop-number.invariant plan)

pub returns : goal.returns
returns c = λ plan.
    let end = c.loop-number-test.false in
    let count = c.len-number-end.ensures in
    all_on_all plan c.args.list.now c.args.found.now c.loop-number.found c.loop-number.number (omega (arith, end, count)) (c.loop-number.invariant plan)
