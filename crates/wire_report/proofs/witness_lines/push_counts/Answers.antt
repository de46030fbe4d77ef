use Rattle.std.proofs.Common.{◌++◌, codes}
use Rattle.wire_report.specs.Views.{count_text, judged_text}
use Rattle.wire_report.proofs.Appended.{then_more, last_slice}
use Rattle.wire_report.proofs.witness_lines.push_counts.Goals as goal

pub returns : goal.returns
returns c =
    let judged = then_more _ _ _ _ _ c.in_ok-push_counted.ensures c.in_ok-push_judged.ensures in
    let counted = then_more _ _ _ _ _ judged c.in_ok-push_counted-2.ensures in
    last_slice c.extend_from_slice.result _ _ _ _ _ _ counted c.extend_from_slice.ensures.items
    (λ i. count_text (c.as_slice.ensures i) c.args.counts.races ++ judged_text c.args.counts ++ count_text (c.as_slice-2.ensures i) c.args.counts.not_tried ++ codes "\n")
