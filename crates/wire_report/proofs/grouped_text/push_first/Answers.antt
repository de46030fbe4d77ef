use Rattle.std.proofs.Common.{◌++◌, codes}
use Rattle.wire_types.specs.Texts.{lists_of}
use Rattle.wire_report.specs.GroupedText.{counted, said_call}
use Rattle.wire_report.specs.Place.{place_text}
use Rattle.wire_report.proofs.Appended.{then_more, last_two}
use Rattle.wire_report.proofs.grouped_text.push_first.Goals as goal

pub returns : goal.returns
returns c =
    let s = c.args.scripts.now in
    let told = then_more c.args.out.now.items _ _ _ _ c.in_ok-push_place.ensures c.in_ok-push_counted_findings.ensures in
    let colon = then_more c.args.out.now.items _ _ _ _ told c.in_ok-extend_from_slice.ensures.items in
    last_two c.push_said.result c.args.out.now.items _ _ _ _ _ _ colon c.push_said.ensures
    (λ i. place_text c.args.places.name.now (lists_of c.args.places.rows.now) (c.pair_of.ensures i).lower ++ counted s c.args.count (c.subject_of.ensures i)
    ++ codes ": " ++ said_call s (c.pair_of.ensures i).lower ++ codes "\n")
