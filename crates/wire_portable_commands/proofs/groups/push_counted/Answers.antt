use Rattle.std.proofs.Common.{refl}
use Rattle.wire_report.proofs.Appended.{then_more, last_slice}
use Rattle.wire_portable_commands.proofs.groups.push_counted.Goals as goal

pub returns : goal.returns
returns c =
    let said = then_more c.args.out.now.items _ _ _ _ c.in_ok-push_count.ensures c.in_ok-push_said.ensures in
    last_slice c.extend_from_slice.result c.args.out.now.items _ _ _ _ _ said c.extend_from_slice.ensures.items refl
