use Rattle.std.proofs.Common.{◌≡◌, map, take}
use Rattle.wire_types.specs.Said.{spelled_item, AreLawful}
use Rattle.wire_types.specs.Texts.{texts_of}
use Rattle.wire_lines.specs.Views.{view_item}
use Rattle.wire_lines.proofs.sets.items_of.Given as goal

abbrev pub invariant-loop-part : goal.invariant-loop-part
invariant-loop-part l = record {
  spelt : map spelled_item (map view_item l.items.items) ≡ texts_of (take l.part-index l.parts);
  lawful : AreLawful (map view_item l.items.items);
}
