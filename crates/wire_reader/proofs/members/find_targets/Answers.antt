use Rattle.std.proofs.Common.{◌∙◌}
use Rattle.wire_lines.specs.Views.{view_item}
use Rattle.wire_reader.specs.Drafted.{declared_of}
use Rattle.wire_reader.specs.Targets.{target_by}
use Rattle.wire_reader.proofs.Steps.{grown, made_all}
use Rattle.wire_reader.proofs.members.find_targets.Goals as goal

pub loop-item-init : goal.loop-item-init
loop-item-init c = record { so_far = c.in_ok-targets.ensures.items }

pub loop-item-preserved : goal.loop-item-preserved
loop-item-preserved c = record {
  so_far = c.in_ok-push.ensures.items
      ∙ grown (target_by (declared_of c.args.draft.now)) view_item c.loop-item.targets.items c.args.items.now c.loop-item.item-index c.target_of.result _ c.loop-item-test.true
      c.loop-item.invariant.so_far c.target_of.ensures;
}

pub returns : goal.returns
returns c =
    made_all (target_by (declared_of c.args.draft.now)) view_item c.loop-item.targets.items c.args.items.now c.loop-item.item-index c.loop-item-test.false c.loop-item.invariant.so_far
