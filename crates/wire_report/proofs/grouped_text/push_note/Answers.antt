use Rattle.std.proofs.Common.{refl}
use Rattle.wire_report.proofs.Appended.{then_more, last_two}
use Rattle.wire_report.proofs.grouped_text.push_note.Goals as goal

pub returns : goal.returns
returns c =
    let note = then_more c.args.out.now.items _ _ _ _ c.in_ok-push_place.ensures c.in_ok-extend_from_slice.ensures.items in
    last_two c.push_said.result c.args.out.now.items _ _ _ _ _ _ note c.push_said.ensures refl
