use Rattle.std.proofs.Common.{◌∙◌}
use Rattle.wire_report.proofs.Grouped.{grouped}
use Rattle.wire_report.proofs.SameLabels.{labels_decide}
use Rattle.wire_anywhere_report.specs.PlacedLines.{findings_in}
use Rattle.wire_anywhere_report.proofs.PlacedGroups.{labels_in}
use Rattle.wire_anywhere_report.proofs.placed_groups.group_placed.Goals as goal

pub returns : goal.returns
returns c =
    grouped c.args.scripts.now (findings_in c.args.found.now) _ c.in_ok-labels.labels.items c.as_slice.result.now c.groups_of.result
    labels_decide (c.in_ok-labels.ensures ∙ labels_in c.args.scripts.now c.args.found.now) c.as_slice.ensures.value c.groups_of.ensures
