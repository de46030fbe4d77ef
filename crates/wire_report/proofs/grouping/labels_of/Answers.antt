use Rattle.std.proofs.Common.{◌∙◌, sym}
use Rattle.wire_report.specs.Label.{label_of}
use Rattle.wire_report.proofs.Labels.{with_one}
use Rattle.wire_report.proofs.grouping.labels_of.Goals as goal

pub loop-number-preserved : goal.loop-number-preserved
loop-number-preserved c =
    c.in_ok-push.ensures.items ∙ with_one (label_of c.args.scripts.now) c.args.findings.now c.loop-number.number c.in-Some.finding c.loop-number.labels.items c.label_of.result
    (sym c.in-Some.ensures) c.loop-number.invariant c.label_of.ensures
