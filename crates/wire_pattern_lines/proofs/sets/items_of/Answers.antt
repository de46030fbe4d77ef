use Rattle.wire_lines.proofs.Joined.{spelt_more}
use Rattle.wire_pattern_lines.specs.Said.{spelled_item, is_lawful_item}
use Rattle.wire_pattern_lines.specs.Views.{view_item}
use Rattle.wire_pattern_lines.proofs.Parts.{no_parts, lawful_more}
use Rattle.wire_pattern_lines.proofs.sets.items_of.Goals as goal

pub returns-in_default-clause-none : goal.returns-in_default-clause-none
returns-in_default-clause-none c = no_parts spelled_item is_lawful_item c.args.parts.now c.loop-part.part-index _ c.loop-part-test.true c.in_default.ensures.none

pub loop-part-preserved : goal.loop-part-preserved
loop-part-preserved c = record {
  spelt = rw c.in_ok-push.ensures.items (spelt_more view_item spelled_item (λ w. w.now) c.loop-part.items.items c.args.parts.now c.loop-part.part-index c.in-Some.item _ c.loop-part-test.true
      c.loop-part.invariant.spelt c.in-Some.ensures.found.0);
  lawful = rw c.in_ok-push.ensures.items (lawful_more spelled_item is_lawful_item view_item c.loop-part.items.items c.in-Some.item c.loop-part.invariant.lawful c.in-Some.ensures.found.1);
}
