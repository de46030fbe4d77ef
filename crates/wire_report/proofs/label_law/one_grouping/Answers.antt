use Rattle.wire_report.proofs.LabelLaws.{one_grouping}
use Rattle.wire_report.proofs.label_law.one_grouping.Goals as goal

pub returns : goal.returns
returns c = one_grouping
