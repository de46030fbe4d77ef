use Rattle.std.proofs.Common.{ap, sym, flat_map}
use Rattle.std.proofs.lemmas.List.{drop_all}
use Rattle.wire_types.specs.Texts.{lists_of}
use Rattle.wire_report.proofs.Appended.{next_text, none_left}
use Rattle.wire_anywhere_report.specs.PlacedGroups.{group_text}
use Rattle.wire_anywhere_report.proofs.placed_groups.push_all_groups.Goals as goal

pub loop-group-preserved : goal.loop-group-preserved
loop-group-preserved c =
    next_text (group_text c.args.places.name.now c.args.scripts.now (lists_of c.args.places.rows.now) c.args.found.now) c.args.groups.now c.loop-group.group-index _ _ _ _
    c.loop-group-test.true c.loop-group.invariant c.in_ok-push_group.ensures

pub returns : goal.returns
returns c =
    none_left _ _ _ (ap (flat_map (group_text c.args.places.name.now c.args.scripts.now (lists_of c.args.places.rows.now) c.args.found.now))
    (drop_all c.loop-group.group-index c.args.groups.now c.loop-group-test.false)) (sym c.loop-group.invariant)
