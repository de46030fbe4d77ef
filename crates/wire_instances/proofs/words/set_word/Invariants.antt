use Rattle.std.proofs.Common.{◌+◌, ◌++◌, map, flat_map, drop}
use Rattle.wire_pattern.specs.Instances.{items_said}
use Rattle.wire_pattern.specs.Views.{view_item}
use Rattle.wire_scripts.specs.Canonical.{items_text}
use Rattle.wire_instances.specs.Written.{AgreeOn}
use Rattle.wire_instances.proofs.words.set_word.Given as goal

abbrev pub invariant-loop-item : goal.invariant-loop-item
invariant-loop-item l =
    AgreeOn (l.excerpt.wanted + 1)
    (l.word.items ++ items_text (flat_map (items_said l.excerpt.frame.pattern l.excerpt.frame.cast l.calling.caller l.calling.each)
    (map view_item (drop l.item-index l.items.items))))
    (items_text (flat_map (items_said l.excerpt.frame.pattern l.excerpt.frame.cast l.calling.caller l.calling.each) (map view_item l.items.items)))
