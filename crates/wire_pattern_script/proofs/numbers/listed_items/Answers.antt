use Rattle.std.proofs.Common.{ap, refl, map}
use Rattle.wire_pattern_script.specs.Numbers.{item_of}
use Rattle.wire_pattern.specs.Views.{view_item as shown_item_by}
use Rattle.wire_pattern_lines.specs.Views.{view_item}
use Rattle.wire_pattern_script.specs.Drafted.{declared_of}
use Rattle.wire_pattern_script.proofs.Mapped.{pushed, whole}
use Rattle.wire_pattern_script.proofs.numbers.listed_items.Goals as goal

pub loop-item-init : goal.loop-item-init
loop-item-init c = record { so_far = ap (map shown_item_by) c.in_ok-numbered.ensures.items }

pub loop-item-preserved : goal.loop-item-preserved
loop-item-preserved c = record {
  so_far = rw c.in_ok-push.ensures.items (pushed shown_item_by (item_of (declared_of c.args.draft.now)) view_item c.loop-item.numbered.items c.args.items.now c.loop-item.item-index c.item_of-made.result _ _ c.loop-item-test.true refl
      c.loop-item.invariant.so_far c.item_of-made.ensures);
}

pub returns : goal.returns
returns c = whole shown_item_by (item_of (declared_of c.args.draft.now)) view_item c.loop-item.numbered.items c.args.items.now c.loop-item.item-index c.loop-item-test.false c.loop-item.invariant.so_far
