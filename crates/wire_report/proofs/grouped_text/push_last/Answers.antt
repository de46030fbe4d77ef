use Rattle.std.proofs.Common.{refl}
use Rattle.wire_report.proofs.Appended.{then_more, last_slice}
use Rattle.wire_report.proofs.grouped_text.push_last.Goals as goal

pub returns : goal.returns
returns c =
    let number = then_more c.args.out.now.items _ _ _ _ c.in_ok-extend_from_slice.ensures.items c.in_ok-push_number.ensures.ok in
    let groups = then_more c.args.out.now.items _ _ _ _ number c.in_ok-push_group_count.ensures in
    last_slice c.extend_from_slice-2.result c.args.out.now.items _ _ _ _ _ groups c.extend_from_slice-2.ensures.items refl
