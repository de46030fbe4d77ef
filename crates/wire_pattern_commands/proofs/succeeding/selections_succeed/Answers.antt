use Rattle.std.proofs.Common.{true, arith}
use Rattle.wire_cutoff.specs.Views.{selection_by}
use Rattle.wire_cutoff.proofs.Judged.{item_sizes, item_total}
use Rattle.wire_pattern_waits.proofs.Judged.{listed_at, each_more, each_all}
use Rattle.wire_pattern_commands.specs.Succeeding.{IsSelectionTold}
use Rattle.wire_pattern_commands.proofs.Succeeded.{told_as, one_fails}
use Rattle.wire_pattern_commands.proofs.succeeding.selections_succeed.Goals as goal

pub selection_succeeds-requires-clause-sizes : goal.selection_succeeds-requires-clause-sizes
selection_succeeds-requires-clause-sizes c =
    item_sizes c.args.pattern.now c.args.all.now c.loop-selection.selection-index c.selection-item.result c.requires.all c.loop-selection-test.true c.selection-item.is

pub selection_succeeds-requires-clause-few : goal.selection_succeeds-requires-clause-few
selection_succeeds-requires-clause-few c =
    item_total c.args.pattern.now c.args.all.now c.loop-selection.selection-index c.selection-item.result c.requires.all c.loop-selection-test.true c.selection-item.is
    c.requires.few

pub selection_succeeds-requires-clause-apart : goal.selection_succeeds-requires-clause-apart
selection_succeeds-requires-clause-apart c =
    let n = c.loop-selection.selection-index in
    c.requires.apart n (selection_by c.selection-item.result)
    (listed_at c.args.pattern.now c.args.all.now n c.selection-item.result c.requires.all c.loop-selection-test.true c.selection-item.is)

pub loop-selection-init : goal.loop-selection-init
loop-selection-init c = λ i s lt at. absurd (omega (arith, lt))

pub loop-selection-preserved : goal.loop-selection-preserved
loop-selection-preserved c =
    let n = c.loop-selection.selection-index in
    let s = selection_by c.selection-item.result in
    each_more c.args.pattern.now (λ s. IsSelectionTold c.args.pattern.now s true) n s
    (listed_at c.args.pattern.now c.args.all.now n c.selection-item.result c.requires.all c.loop-selection-test.true c.selection-item.is)
    c.loop-selection.invariant (told_as c.args.pattern.now s c.in_ok-succeeds.succeeds true c.if-not-succeeds.false c.in_ok-succeeds.ensures.ok)

pub returns-then-not-succeeds-clause-ok : goal.returns-then-not-succeeds-clause-ok
returns-then-not-succeeds-clause-ok c =
    let n = c.loop-selection.selection-index in
    one_fails c.args.pattern.now n (selection_by c.selection-item.result) c.in_ok-succeeds.succeeds
    (listed_at c.args.pattern.now c.args.all.now n c.selection-item.result c.requires.all c.loop-selection-test.true c.selection-item.is)
    c.if-not-succeeds.true c.in_ok-succeeds.ensures.ok

pub returns-clause-ok : goal.returns-clause-ok
returns-clause-ok c = λ number selection is.
    let end = c.loop-selection-test.false in
    each_all c.args.pattern.now (λ s. IsSelectionTold c.args.pattern.now s true) c.args.all.now c.loop-selection.selection-index c.requires.all (omega (arith, end))
    c.loop-selection.invariant number selection is
