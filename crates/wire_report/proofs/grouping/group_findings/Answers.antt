use Rattle.wire_report.proofs.SameLabels.{labels_decide}
use Rattle.wire_report.proofs.Grouped.{grouped}
use Rattle.wire_report.proofs.grouping.group_findings.Goals as goal

pub returns : goal.returns
returns c =
    grouped c.args.scripts.now c.args.findings.now _ c.in_ok-labels.labels.items c.as_slice.result.now c.groups_of.result
    labels_decide c.in_ok-labels.ensures c.as_slice.ensures.value c.groups_of.ensures
