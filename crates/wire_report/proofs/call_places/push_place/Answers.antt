use Rattle.std.proofs.Common.{◌++◌, codes, decimal, map}
use Rattle.wire_report.specs.Place.{name_byte}
use Rattle.wire_report.proofs.Appended.{then_more, last_slice}
use Rattle.wire_report.proofs.call_places.push_place.Goals as goal

pub returns : goal.returns
returns c =
    let name = then_more c.args.out.now.items _ _ _ _ c.in_ok-push_name.ensures c.in_ok-extend_from_slice.ensures.items in
    let line = then_more c.args.out.now.items _ _ _ _ name c.in_ok-push_number.ensures.ok in
    last_slice c.extend_from_slice-2.result c.args.out.now.items _ _ _ _ _ line c.extend_from_slice-2.ensures.items
    (λ i. map name_byte c.args.places.name.now ++ codes ":" ++ decimal (c.line_of.ensures i) ++ codes ": ")
