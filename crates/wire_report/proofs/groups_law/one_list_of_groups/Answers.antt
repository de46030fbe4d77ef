use Rattle.wire_report.proofs.GroupLaws.{one_list_of_groups}
use Rattle.wire_report.proofs.groups_law.one_list_of_groups.Goals as goal

pub returns : goal.returns
returns g c = one_list_of_groups g.K.PartialEq.eq
