use Rattle.wire_types.specs.Texts.{lists_of}
use Rattle.wire_anywhere_report.proofs.PlacedGroups.{json_in_groups}
use Rattle.wire_anywhere_report.proofs.placed_json.grouped_json.Goals as goal

pub returns : goal.returns
returns c =
    json_in_groups (lists_of c.args.rows.now) c.args.scripts.now c.args.found.now c.in_ok-groups.groups.items _ c.groups_json.result
    c.in_ok-groups.ensures c.as_slice.ensures.value c.groups_json.ensures
