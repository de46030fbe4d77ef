use Rattle.std.proofs.Common.{append_assoc, codes}
use Rattle.wire_report.specs.Findings.{finding_words}
use Rattle.wire_report.specs.Views.{verdict_text}
use Rattle.wire_report.proofs.Appended.{then_more, last_slice}
use Rattle.wire_report.proofs.witness_lines.push_tried.Goals as goal

pub returns : goal.returns
returns c =
    let s = c.args.scripts.now in
    let finding = then_more c.args.out.now.items _ _ _ _ c.in_ok-push_verdict.ensures c.in_ok-push_finding.ensures.ok in
    last_slice c.extend_from_slice.result c.args.out.now.items _ _ _ _ _ finding c.extend_from_slice.ensures.items
    (append_assoc (verdict_text s c.args.shown) (finding_words s c.args.race) (codes "\n"))
