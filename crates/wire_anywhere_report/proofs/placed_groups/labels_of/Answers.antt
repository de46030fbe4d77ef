use Rattle.std.proofs.Common.{◌∙◌, sym}
use Rattle.wire_report.specs.Label.{label_of}
use Rattle.wire_report.proofs.Labels.{with_one}
use Rattle.wire_anywhere_report.proofs.placed_groups.labels_of.Goals as goal

pub loop-number-preserved : goal.loop-number-preserved
loop-number-preserved c =
    c.in_ok-push.ensures.items ∙ with_one (λ placed. label_of c.args.scripts.now placed.finding) c.args.found.now c.loop-number.number c.in-Some.placed c.loop-number.labels.items
    c.label_of.result (sym c.in-Some.ensures) c.loop-number.invariant c.label_of.ensures
