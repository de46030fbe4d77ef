use Rattle.wire_types.specs.Texts.{lists_of}
use Rattle.wire_anywhere_report.proofs.PlacedGroups.{told_in_groups}
use Rattle.wire_anywhere_report.proofs.placed_groups.grouped_text.Goals as goal

pub returns : goal.returns
returns c =
    told_in_groups c.args.places.name.now (lists_of c.args.places.rows.now) c.args.scripts.now c.args.found.now c.in_ok-groups.groups.items _ c.groups_text.result
    c.in_ok-groups.ensures c.as_slice.ensures.value c.groups_text.ensures
