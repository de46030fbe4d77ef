use Rattle.std.proofs.Common.{refl}
use Rattle.wire_report.proofs.Appended.{then_more, last_slice}
use Rattle.wire_report.proofs.chain_parts.push_dead_line.Goals as goal

pub returns : goal.returns
returns c =
    let call = then_more c.args.out.now.items _ _ _ _ c.in_ok-extend_from_slice.ensures.items c.in_ok-push_call.ensures.ok in
    last_slice c.extend_from_slice-2.result c.args.out.now.items _ _ _ _ _ call c.extend_from_slice-2.ensures.items refl
