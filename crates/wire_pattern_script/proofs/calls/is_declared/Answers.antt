use Rattle.std.proofs.Common.{◌∙◌, ap, sym, map}
use Rattle.std.specs.List.{list_all}
use Rattle.wire_pattern_script.specs.Faults.{is_declared_item}
use Rattle.wire_pattern.specs.Views.{view_item}
use Rattle.wire_pattern_script.proofs.Mapped.{all_of}
use Rattle.wire_pattern_script.proofs.Named.{declared_twice}
use Rattle.wire_pattern_script.proofs.calls.is_declared.Goals as goal

pub returns-in-Fence : goal.returns-in-Fence
returns-in-Fence c =
    rw c.in-Fence.is (c.are_declared_items.ensures ∙ ap (list_all (λ x. is_declared_item c.args.jobs c.args.roles (view_item x))) c.deref.ensures.value ∙ all_of view_item (is_declared_item c.args.jobs c.args.roles) c.in-Fence.items.items
    ∙ sym (declared_twice c.args.jobs c.args.roles (map view_item c.in-Fence.items.items)))
