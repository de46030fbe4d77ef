use Rattle.std.proofs.Common.{◌∙◌, ap, sym, map}
use Rattle.std.specs.List.{list_all}
use Rattle.wire_pattern.specs.Lawful.{is_known_item}
use Rattle.wire_pattern.specs.Views.{view_item, role_by}
use Rattle.wire_pattern_script.proofs.Mapped.{all_of}
use Rattle.wire_pattern_script.proofs.Named.{known_twice}
use Rattle.wire_pattern_script.proofs.calls.is_known.Goals as goal

pub returns-in-Fence : goal.returns-in-Fence
returns-in-Fence c =
    rw c.in-Fence.is (c.are_known_items.ensures ∙ ap (list_all (λ x. is_known_item c.args.jobs (map role_by c.args.roles.now) (view_item x))) c.deref.ensures.value ∙ all_of view_item (is_known_item c.args.jobs (map role_by c.args.roles.now)) c.in-Fence.items.items
    ∙ sym (known_twice c.args.jobs (map role_by c.args.roles.now) (map view_item c.in-Fence.items.items)))
