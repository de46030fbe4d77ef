use Rattle.std.proofs.Common.{◌≤◌, ap, subst, length, Ok, arith}
use Rattle.std.specs.Prelude.{IfSome}
use Rattle.wire_cutoff.specs.Views.{selection_by, IsFoundAt}
use Rattle.wire_cutoff.proofs.Judged.{item_sizes, item_total, one_more, all_settled, first_found}
use Rattle.wire_cutoff.proofs.cutoff.judge_all.Goals as goal

pub judge_selection-requires-clause-sizes : goal.judge_selection-requires-clause-sizes
judge_selection-requires-clause-sizes g c = λ lifetimes lives.
    item_sizes c.args.pattern.now c.args.all.now c.loop-selection.selection-index c.selection-item.result c.requires.all c.loop-selection-test.true c.selection-item.is

pub judge_selection-requires-clause-few : goal.judge_selection-requires-clause-few
judge_selection-requires-clause-few g c = λ lifetimes lives.
    item_total c.args.pattern.now c.args.all.now c.loop-selection.selection-index c.selection-item.result c.requires.all c.loop-selection-test.true c.selection-item.is
    c.requires.few

pub returns-in-Some-clause-found : goal.returns-in-Some-clause-found
returns-in-Some-clause-found g c =
    first_found c.args.pattern.now c.args.all.now c.loop-selection.selection-index c.selection-item.result c.in-Some.found c.requires.all c.loop-selection-test.true
    c.selection-item.is c.loop-selection.invariant
    (subst (λ o. IfSome o (λ x. IsFoundAt c.args.pattern.now (selection_by c.selection-item.result) x)) c.in-Some.is c.in_ok-found.ensures.found)

pub loop-selection-preserved : goal.loop-selection-preserved
loop-selection-preserved g c =
    one_more c.args.pattern.now c.args.all.now c.loop-selection.selection-index c.selection-item.result c.loop-selection-test.true c.selection-item.is
    c.loop-selection.invariant (c.in_ok-found.ensures.settled (ap Ok c.in-None.is))

pub returns-clause-settled : goal.returns-clause-settled
returns-clause-settled g c = λ e.
    let past : length c.args.all.now ≤ c.loop-selection.selection-index = omega (arith, c.loop-selection-test.false) in
    all_settled c.args.pattern.now c.args.all.now c.loop-selection.selection-index c.requires.all past c.loop-selection.invariant
