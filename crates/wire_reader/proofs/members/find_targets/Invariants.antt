use Rattle.std.proofs.Common.{◌≡◌, map, take}
use Rattle.wire_lines.specs.Views.{view_item}
use Rattle.wire_reader.specs.Targets.{target_by}
use Rattle.wire_reader.specs.Drafted.{declared_of}
use Rattle.wire_reader.proofs.members.find_targets.Given as goal

abbrev pub invariant-loop-item : goal.invariant-loop-item
invariant-loop-item l = record {
  so_far : l.targets.items ≡ map (target_by (declared_of l.draft)) (map view_item (take l.item-index l.items));
}
