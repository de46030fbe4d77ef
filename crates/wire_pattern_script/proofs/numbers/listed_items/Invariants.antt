use Rattle.std.proofs.Common.{◌≡◌, map, take}
use Rattle.wire_pattern_script.specs.Numbers.{item_of}
use Rattle.wire_pattern.specs.Views.{view_item as shown_item_by}
use Rattle.wire_pattern_lines.specs.Views.{view_item}
use Rattle.wire_pattern_script.specs.Drafted.{declared_of}
use Rattle.wire_pattern_script.proofs.numbers.listed_items.Given as goal

abbrev pub invariant-loop-item : goal.invariant-loop-item
invariant-loop-item l = record {
  so_far : map shown_item_by l.numbered.items ≡ map (item_of (declared_of l.draft)) (map view_item (take l.item-index l.items));
}
