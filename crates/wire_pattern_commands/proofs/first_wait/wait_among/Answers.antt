use Rattle.std.proofs.Common.{arith}
use Rattle.wire_cutoff.specs.Views.{selection_by}
use Rattle.wire_cutoff.proofs.Judged.{item_sizes, item_total}
use Rattle.wire_pattern_waits.proofs.Judged.{listed_at, each_more, each_all}
use Rattle.wire_pattern_commands.specs.FirstWait.{RunsThrough}
use Rattle.wire_pattern_commands.proofs.FirstWaits.{first_of, runs_through}
use Rattle.wire_pattern_commands.proofs.first_wait.wait_among.Goals as goal

pub wait_of-requires-clause-sizes : goal.wait_of-requires-clause-sizes
wait_of-requires-clause-sizes c =
    item_sizes c.args.pattern.now c.args.all.now c.loop-selection.selection-index c.selection-item.result c.requires.all c.loop-selection-test.true c.selection-item.is

pub wait_of-requires-clause-few : goal.wait_of-requires-clause-few
wait_of-requires-clause-few c =
    item_total c.args.pattern.now c.args.all.now c.loop-selection.selection-index c.selection-item.result c.requires.all c.loop-selection-test.true c.selection-item.is
    c.requires.few

pub loop-selection-init : goal.loop-selection-init
loop-selection-init c = λ i s lt at. absurd (omega (arith, lt))

pub loop-selection-preserved : goal.loop-selection-preserved
loop-selection-preserved c =
    let n = c.loop-selection.selection-index in
    let s = selection_by c.selection-item.result in
    each_more c.args.pattern.now (RunsThrough c.args.pattern.now) n s
    (listed_at c.args.pattern.now c.args.all.now n c.selection-item.result c.requires.all c.loop-selection-test.true c.selection-item.is)
    c.loop-selection.invariant (runs_through c.args.pattern.now s _ c.in-None.is c.in_ok-found.ensures.ok)

pub returns-in-Some-clause-ok : goal.returns-in-Some-clause-ok
returns-in-Some-clause-ok c =
    let n = c.loop-selection.selection-index in
    first_of c.args.pattern.now n (selection_by c.selection-item.result) _ c.in-Some.found
    (listed_at c.args.pattern.now c.args.all.now n c.selection-item.result c.requires.all c.loop-selection-test.true c.selection-item.is)
    c.loop-selection.invariant c.in-Some.is c.in_ok-found.ensures.ok

pub returns-clause-ok : goal.returns-clause-ok
returns-clause-ok c = λ number selection is.
    let end = c.loop-selection-test.false in
    each_all c.args.pattern.now (RunsThrough c.args.pattern.now) c.args.all.now c.loop-selection.selection-index c.requires.all (omega (arith, end))
    c.loop-selection.invariant number selection is
